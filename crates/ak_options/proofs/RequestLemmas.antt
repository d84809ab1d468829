-- What a node is asked, as a line in which `a:1#1` comes after the first word.
use Rattle.std.proofs.Common.{◌≡◌, ◌≢◌, ℕ, ◌+◌, ◌<◌, ◌≤◌, false, List, [], ◌∷◌, ◌++◌, length, codes, All, refl, sym, ◌∙◌, ap, subst, inl, inr, arith, length-append, append_assoc, not, Err, ◌↔◌}
use Rattle.std.specs.Str.{bytes_eq}
use Rattle.ak_options.proofs.Names.{differ}
use Rattle.ak_address.specs.Unique.{UniqueModel}
use Rattle.ak_address.specs.Spelling.{SpellsUnique, IsNumber}
use Rattle.ak_address.proofs.SpellingLemmas.{unique_same}
use Rattle.ak_schedule.specs.Line.{words, most_bytes, IsPieceAndRest, IsFirstWord}
use Rattle.ak_schedule.specs.Schedule.{SpellsEvent, SpellsWords}
use Rattle.ak_schedule.specs.Reading.{Reads}
use Rattle.ak_schedule.specs.declared.fault.LineFault.{LineFault}
use Rattle.ak_schedule.proofs.OneWay.{one_event, same_number, same_unique}
use Rattle.ak_schedule.proofs.EventWords.{refused}
use Rattle.ak_schedule.specs.declared.event.Event.{Event}
use Rattle.ak_schedule.specs.declared.event.Event.TheVariants.{Start, Found, Join, Tick, Deliver, Leave, Down, Offer, Stop}
use Rattle.ak_schedule.proofs.LineParts.{IsPlain, next_words, first_word}
use Rattle.ak_schedule.proofs.Canonical.{plain_bytes}
use Rattle.ak_options.specs.declared.command.Request as request
use Rattle.ak_options.specs.Requests.{some_process, event_at, SpellsRequest, IsRequestName, IsLineOf}

pub some_process_spelled : SpellsUnique (codes "a:1#1") some_process
some_process_spelled = record {
  range = record {
    address = record { host = record { not_empty = omega arith; short = omega arith; letters = refl }; port = omega arith; port_fits = omega arith };
    uid = omega arith;
    uid_fits = omega arith;
  };
  prefix = codes "a:1";
  digits = codes "1";
  address = record {
    range = record { host = record { not_empty = omega arith; short = omega arith; letters = refl }; port = omega arith; port_fits = omega arith };
    digits = codes "1";
    port = one;
    whole = refl;
  };
  uid = one;
  whole = refl;
}
  where
    one : IsNumber (codes "1") 1
    one = record { not_empty = omega arith; short = omega arith; digits = (omega arith, tt); value = refl }

-- the process of a line in which it stands so
is_some_process : (a : List ℕ) (u : UniqueModel) → a ≡ codes "a:1#1" → SpellsUnique a u → u ≡ some_process
is_some_process a u is spelt = unique_same (codes "a:1#1") u some_process (subst (λ (w : List ℕ). SpellsUnique w u) is spelt) some_process_spelled

-- the name of an event that no node can be asked
not_asked : (first name : List ℕ) → bytes_eq name (codes "leave") ≡ false → bytes_eq name (codes "down") ≡ false → bytes_eq name (codes "offer") ≡ false →
    first ≡ name → IsRequestName first → ⊥
not_asked first name a b c is (inl named) = differ name (codes "leave") a (sym is ∙ named)
not_asked first name a b c is (inr (inl named)) = differ name (codes "down") b (sym is ∙ named)
not_asked first name a b c is (inr (inr named)) = differ name (codes "offer") c (sym is ∙ named)

request_in : (first : List ℕ) (others : List (List ℕ)) (e : Event) → SpellsWords (first ∷ codes "a:1#1" ∷ others) e → IsRequestName first →
    (r : request.Request) × (e ≡ event_at some_process r)
request_in first others (Leave u who) h =
    let same : h.0 ≡ codes "a:1#1" = cc in λ asked. (request.TheVariants.Leave who, ap (λ (x : UniqueModel). Leave x who) (is_some_process h.0 u same h.3))
request_in first others (Down u who) h =
    let same : h.0 ≡ codes "a:1#1" = cc in λ asked. (request.TheVariants.Down who, ap (λ (x : UniqueModel). Down x who) (is_some_process h.0 u same h.3))
request_in first others (Offer u entity payload) h =
    let same : h.0 ≡ codes "a:1#1" = cc in λ asked. (request.TheVariants.Offer entity payload, ap (λ (x : UniqueModel). Offer x entity payload) (is_some_process h.0 u same h.3))
request_in first others (Start u) h = let is : first ≡ codes "start" = cc in λ asked. absurd (not_asked first (codes "start") refl refl refl is asked)
request_in first others (Found u) h = let is : first ≡ codes "found" = cc in λ asked. absurd (not_asked first (codes "found") refl refl refl is asked)
request_in first others (Join u t) h = let is : first ≡ codes "join" = cc in λ asked. absurd (not_asked first (codes "join") refl refl refl is asked)
request_in first others (Tick u word) h = let is : first ≡ codes "tick" = cc in λ asked. absurd (not_asked first (codes "tick") refl refl refl is asked)
request_in first others (Deliver packet) h = let is : first ≡ codes "deliver" = cc in λ asked. absurd (not_asked first (codes "deliver") refl refl refl is asked)
request_in first others (Stop u) h = let is : first ≡ codes "stop" = cc in λ asked. absurd (not_asked first (codes "stop") refl refl refl is asked)

-- an event of such a line asks something of the process
pub request_of_line : (text line : List ℕ) (e : Event) → IsLineOf text line → SpellsEvent line e → (r : request.Request) × (e ≡ event_at some_process r) × SpellsRequest text r
request_of_line text line e is spelt =
    let ws : SpellsWords (is.first ∷ codes "a:1#1" ∷ is.others) e = subst (λ (l : List (List ℕ)). SpellsWords l e) is.with_process spelt.words in
    let found = request_in is.first is.others e ws is.named in (
      found.0,
      found.1,
      record {
        short = is.short;
        first = is.first;
        others = is.others;
        whole = is.whole;
        line = subst (λ (f : Event). SpellsWords (is.first ∷ codes "a:1#1" ∷ is.others) f) found.1 ws;
      },
    )

-- and what the text asks, the line says
pub line_of_request : (text line : List ℕ) (r : request.Request) → IsLineOf text line → SpellsRequest text r → SpellsEvent line (event_at some_process r)
line_of_request text line r is spelt =
    let parts : spelt.first ∷ spelt.others ≡ is.first ∷ is.others = sym spelt.whole ∙ is.whole in
    let first : spelt.first ≡ is.first = cc in
    let others : spelt.others ≡ is.others = cc in
    let same : spelt.first ∷ codes "a:1#1" ∷ spelt.others ≡ words line =
    ap (λ (w : List ℕ). w ∷ codes "a:1#1" ∷ spelt.others) first ∙ ap (λ (ws : List (List ℕ)). is.first ∷ codes "a:1#1" ∷ ws) others ∙ sym is.with_process in
    record { short = is.fits; words = subst (λ (l : List (List ℕ)). SpellsWords l (event_at some_process r)) same spelt.line }

-- the first word of what a node is asked
request_named : (first : List ℕ) (others : List (List ℕ)) (r : request.Request) → SpellsWords (first ∷ others) (event_at some_process r) → IsRequestName first
request_named first others (request.TheVariants.Leave who) h = inl cc
request_named first others (request.TheVariants.Down who) h = inr (inl cc)
request_named first others (request.TheVariants.Offer entity payload) h = inr (inr cc)

pub named_so : (text name : List ℕ) (rest : List (List ℕ)) (r : request.Request) → words text ≡ name ∷ rest → SpellsRequest text r → IsRequestName name
named_so text name rest r is spelt =
    let parts : spelt.first ∷ spelt.others ≡ name ∷ rest = sym spelt.whole ∙ is in
    let first : spelt.first ≡ name = cc in
    subst IsRequestName first (request_named spelt.first (codes "a:1#1" ∷ spelt.others) r spelt.line)

pub no_request : (text : List ℕ) (r : request.Request) → words text ≡ [] → SpellsRequest text r → ⊥
no_request text r none spelt = let e : [] ≡ spelt.first ∷ spelt.others = sym none ∙ spelt.whole in cc

plain_name : (name : List ℕ) → IsRequestName name → IsPlain name
plain_name name (inl is) = subst IsPlain (sym is) (plain_bytes (codes "leave") refl refl)
plain_name name (inr (inl is)) = subst IsPlain (sym is) (plain_bytes (codes "down") refl refl)
plain_name name (inr (inr is)) = subst IsPlain (sym is) (plain_bytes (codes "offer") refl refl)

short_name : (name : List ℕ) → IsRequestName name → length name ≤ 5
short_name name (inl is) = subst (λ (w : List ℕ). length w ≤ 5) (sym is) (omega arith)
short_name name (inr (inl is)) = subst (λ (w : List ℕ). length w ≤ 5) (sym is) (omega arith)
short_name name (inr (inr is)) = subst (λ (w : List ℕ). length w ≤ 5) (sym is) (omega arith)

-- the line's words
words_with : (first rest : List ℕ) → IsRequestName first → words (first ++ codes " a:1#1 " ++ rest) ≡ first ∷ codes "a:1#1" ∷ words rest
words_with first rest named =
    let regrouped : first ++ codes " a:1#1 " ++ rest ≡ first ++ 32 ∷ (codes "a:1#1" ++ 32 ∷ rest) = append_assoc first (codes " a:1#1 ") rest in
    ap words regrouped ∙ next_words first (codes "a:1#1" ++ 32 ∷ rest) (plain_name first named)
    ∙ ap (λ (ws : List (List ℕ)). first ∷ ws) (next_words (codes "a:1#1") rest (plain_bytes (codes "a:1#1") refl refl))

-- where the text is not too long, its line is not
has_room : (text first rest : List ℕ) → length text + 6 ≤ most_bytes → IsRequestName first → IsFirstWord text first rest → length (first ++ codes " a:1#1 " ++ rest) ≤ most_bytes
has_room text first rest short named word = room word.whole
  where
    total : length (first ++ codes " a:1#1 " ++ rest) ≡ length first + 7 + length rest
    total = omega (arith, length-append (first ++ codes " a:1#1 ") rest, length-append first (codes " a:1#1 "))

    begun_fits : length word.begun ≤ length text
    begun_fits = omega (arith, ap (length {A = ℕ}) word.spaces_first, length-append word.spaces word.begun)

    room : IsPieceAndRest 32 word.begun first rest → length (first ++ codes " a:1#1 " ++ rest) ≤ most_bytes
    room (inl whole) = omega (arith, total, begun_fits, ap (length {A = ℕ}) whole, length-append first (32 ∷ rest))
    room (inr ended) = omega (arith, total, short_name first named, ap (length {A = ℕ}) ended.1)

pub too_long : (text first rest : List ℕ) → length text + 6 ≤ most_bytes → IsRequestName first → IsFirstWord text first rest →
    most_bytes < length (first ++ codes " a:1#1 " ++ rest) → ⊥
too_long text first rest short named word long = omega (arith, has_room text first rest short named word, long)

pub is_line : (text first rest line : List ℕ) → length text + 6 ≤ most_bytes → IsRequestName first → IsFirstWord text first rest →
    line ≡ first ++ codes " a:1#1 " ++ rest → length line ≤ most_bytes → IsLineOf text line
is_line text first rest line short named word is fits = record {
  short = short;
  fits = fits;
  first = first;
  others = words rest;
  whole = word.first;
  named = named;
  with_process = ap words is ∙ words_with first rest named;
}

-- what is read of the line is what is read of the text
pub read_so : (text line : List ℕ) (e : Event) (r : request.Request) (process : UniqueModel) → IsLineOf text line → SpellsEvent line e → e ≡ event_at process r → SpellsRequest text r
read_so text line e r process is spelt asks =
    let found = request_of_line text line e is spelt in
    subst (SpellsRequest text) (one_request found.0 r process (sym found.1 ∙ asks)) found.2
  where
    one_request : (r s : request.Request) (process : UniqueModel) → event_at some_process r ≡ event_at process s → r ≡ s
    one_request (request.TheVariants.Leave m) (request.TheVariants.Leave n) process same = let e : m ≡ n = cc in ap request.TheVariants.Leave e
    one_request (request.TheVariants.Down m) (request.TheVariants.Down n) process same = let e : m ≡ n = cc in ap request.TheVariants.Down e
    one_request (request.TheVariants.Offer m x) (request.TheVariants.Offer n y) process same =
        let e : m ≡ n = cc in
        let f : x ≡ y = cc in
        ap (λ (z : List ℕ). request.TheVariants.Offer z x) e ∙ ap (λ (z : ℕ). request.TheVariants.Offer n z) f
    one_request r s process same = absurd (cc)

pub not_read : (text line : List ℕ) (e : Event) → IsLineOf text line → SpellsEvent line e → ((process : UniqueModel) (r : request.Request) → e ≡ event_at process r → ⊥) → (r : request.Request) → SpellsRequest text r → ⊥
not_read text line e is spelt none r asks =
    none some_process r (one_event line e (event_at some_process r) spelt (line_of_request text line r is asks))

pub fails_so : (text line : List ℕ) (fault : LineFault) → IsLineOf text line → Reads (SpellsEvent line) (Err fault) → Reads (SpellsRequest text) (Err fault)
fails_so text line fault is read =
    refused (SpellsEvent line) (SpellsRequest text) fault read (λ r asks. (event_at some_process r, line_of_request text line r is asks))
    (λ e spelt. let found = request_of_line text line e is spelt in (found.0, found.2))

-- ---- laws
pub as_line : (first rest : List ℕ) (r : request.Request) → All (λ b. b ≢ 32) first → first ≢ [] →
    SpellsRequest (first ++ 32 ∷ rest) r ↔ SpellsEvent (first ++ codes " a:1#1 " ++ rest) (event_at some_process r)
as_line first rest r letters some =
    let whole : words (first ++ 32 ∷ rest) ≡ first ∷ words rest = first_word first rest letters some in
    let regrouped : first ++ codes " a:1#1 " ++ rest ≡ first ++ 32 ∷ (codes "a:1#1" ++ 32 ∷ rest) = append_assoc first (codes " a:1#1 ") rest in
    let line : words (first ++ codes " a:1#1 " ++ rest) ≡ first ∷ codes "a:1#1" ∷ words rest =
    ap words regrouped ∙ first_word first (codes "a:1#1" ++ 32 ∷ rest) letters some ∙ ap (λ (ws : List (List ℕ)). first ∷ ws) (next_words (codes "a:1#1") rest (plain_bytes (codes "a:1#1") refl refl)) in
    let text_length : length (first ++ 32 ∷ rest) ≡ length first + 1 + length rest = omega (arith, length-append first (32 ∷ rest)) in
    let line_length : length (first ++ codes " a:1#1 " ++ rest) ≡ length first + 7 + length rest = omega (arith, length-append (first ++ codes " a:1#1 ") rest, length-append first (codes " a:1#1 ")) in (
      (λ asks.
          let parts : asks.first ∷ asks.others ≡ first ∷ words rest = sym asks.whole ∙ whole in
          let same : asks.first ∷ codes "a:1#1" ∷ asks.others ≡ words (first ++ codes " a:1#1 " ++ rest) = with_middle asks.first first asks.others (words rest) parts ∙ sym line in
          record { short = omega (arith, asks.short, text_length, line_length); words = subst (λ (ws : List (List ℕ)). SpellsWords ws (event_at some_process r)) same asks.line }),
      (λ spelt. record {
        short = omega (arith, spelt.short, text_length, line_length);
        first = first;
        others = words rest;
        whole = whole;
        line = subst (λ (ws : List (List ℕ)). SpellsWords ws (event_at some_process r)) line spelt.words;
      }),
    )
  where
    with_middle : (f g : List ℕ) (os ps : List (List ℕ)) → f ∷ os ≡ g ∷ ps → f ∷ codes "a:1#1" ∷ os ≡ g ∷ codes "a:1#1" ∷ ps
    with_middle f g os ps same =
        let first : f ≡ g = cc in
        let others : os ≡ ps = cc in
        ap (λ (w : List ℕ). w ∷ codes "a:1#1" ∷ os) first ∙ ap (λ (ws : List (List ℕ)). g ∷ codes "a:1#1" ∷ ws) others

-- a text asks one thing at most
same_request : (ws : List (List ℕ)) (r s : request.Request) → SpellsWords ws (event_at some_process r) → SpellsWords ws (event_at some_process s) → r ≡ s
same_request ws (request.TheVariants.Leave m) (request.TheVariants.Leave n) h g =
    let w : h.1 ≡ g.1 = cc in ap request.TheVariants.Leave (same_unique h.1 g.1 m n w h.4 g.4)
same_request ws (request.TheVariants.Down m) (request.TheVariants.Down n) h g =
    let w : h.1 ≡ g.1 = cc in ap request.TheVariants.Down (same_unique h.1 g.1 m n w h.4 g.4)
same_request ws (request.TheVariants.Offer m x) (request.TheVariants.Offer n y) h g =
    let entity : m ≡ n = cc in
    let w : h.1 ≡ g.1 = cc in
    ap (λ (z : List ℕ). request.TheVariants.Offer z x) entity ∙ ap (λ (z : ℕ). request.TheVariants.Offer n z) (same_number h.1 g.1 x y w h.5.number g.5.number)
same_request ws (request.TheVariants.Leave m) (request.TheVariants.Down n) h g = absurd (differ (codes "leave") (codes "down") refl cc)
same_request ws (request.TheVariants.Leave m) (request.TheVariants.Offer n y) h g = absurd (differ (codes "leave") (codes "offer") refl cc)
same_request ws (request.TheVariants.Down m) (request.TheVariants.Leave n) h g = absurd (differ (codes "down") (codes "leave") refl cc)
same_request ws (request.TheVariants.Down m) (request.TheVariants.Offer n y) h g = absurd (differ (codes "down") (codes "offer") refl cc)
same_request ws (request.TheVariants.Offer m x) (request.TheVariants.Leave n) h g = absurd (differ (codes "offer") (codes "leave") refl cc)
same_request ws (request.TheVariants.Offer m x) (request.TheVariants.Down n) h g = absurd (differ (codes "offer") (codes "down") refl cc)

pub one_request_asked : (text : List ℕ) (r s : request.Request) → SpellsRequest text r → SpellsRequest text s → r ≡ s
one_request_asked text r s h g =
    let parts : h.first ∷ h.others ≡ g.first ∷ g.others = sym h.whole ∙ g.whole in
    let first : h.first ≡ g.first = cc in
    let others : h.others ≡ g.others = cc in
    let same : h.first ∷ codes "a:1#1" ∷ h.others ≡ g.first ∷ codes "a:1#1" ∷ g.others =
    ap (λ (w : List ℕ). w ∷ codes "a:1#1" ∷ h.others) first ∙ ap (λ (ws : List (List ℕ)). g.first ∷ codes "a:1#1" ∷ ws) others in
    same_request (g.first ∷ codes "a:1#1" ∷ g.others) r s (subst (λ (ws : List (List ℕ)). SpellsWords ws (event_at some_process r)) same h.line) g.line
