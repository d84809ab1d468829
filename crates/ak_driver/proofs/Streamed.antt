-- How far a replay has come in what its source gives.
use Rattle.std.proofs.Common.{◌≡◌, inl, inr, ℕ, ◌+◌, ◌-◌, ◌<◌, ◌≤◌, Bool, true, false, List, [], ◌∷◌, ◌++◌, length, Option, Some, None, IfSome, Err, arith, refl, sym, ap, ◌∙◌, subst, append-nil, append_assoc}
use Rattle.std.specs.Prelude.{map, IfSome}
use Rattle.std.specs.List.{concat}
use Rattle.std.specs.Io.KnownBytes.{Appends, IsAtEnd}
use Rattle.std.proofs.KnownBytes.{Appends-nil, Appends-trans}
use Rattle.std.proofs.lemmas.List.Folds.{concat-append}
use Rattle.std.proofs.lemmas.List.{map-append}
use Rattle.ak_outside.specs.Outside.{AppendsPrefix}
use Rattle.ak_outside.specs.Lines.{LineState, to_come, most_line, Gives, NextCause, EndedBy, HasNoEnd, IsLineAndRest, BeginsLine}
use Rattle.ak_outside.specs.declared.lines.Next.{Next}
use Rattle.ak_outside.specs.declared.lines.Next.TheVariants.{Failed}
use Rattle.ak_outside.specs.declared.status.Status.{Status}
use Rattle.ak_outside.specs.declared.status.Status.TheVariants.{Read, Write}
use Rattle.ak_outside.proofs.Prefixes.{AppendsPrefix-after}
use Rattle.ak_schedule.specs.Draft.{first_draft}
use Rattle.ak_schedule.specs.Line.{lines, without_cr, most_bytes}
use Rattle.ak_driver.specs.declared.replay.Code.{Code}
use Rattle.ak_driver.specs.declared.replay.Replay.{Replay}
use Rattle.ak_driver.specs.declared.replay.Stage.TheVariants.{Heading}
use Rattle.ak_driver.specs.declared.replay.Stop.{Stop}
use Rattle.ak_driver.specs.declared.replay.Stop.TheVariants.{Refused}
use Rattle.ak_outside.specs.Endings.{Written, read_line}
use Rattle.ak_driver.specs.ReplayText.{Progress, Judgement, Passes, Sets, SetsExtra, Steps, Judged, IsRefused, Accepts, IsTextOfEnded, Stopped, Replays, turn, at_start, most_lines}
use Rattle.ak_driver.specs.ReplayPromise.{Prints, Promises}
use Rattle.ak_driver.specs.ReplayContracts.{Turns, TurnAnswers, Flushes, EndsWith, Ended, progress_of}
use Rattle.ak_driver.proofs.ReplayLoop.{Along, along_start, along_turn, along_flush, along_fails, along_stop, along_refusal, along_finish, progress_line}
use Rattle.ak_driver.proofs.TextParts.{parts_of, joined, meet, parts_meet, meet_last, trimmed_is, first_line, one_part, long_first}

-- what stands before what is to come: whole lines, each of which was accepted, with the texts of their steps
pub record Before (bytes rest : List ℕ) (old now : Option (List ℕ)) (p : Progress) (out : List ℕ) : Type 0 where
  pub given : List ℕ
  pub ended : List (List ℕ)
  pub whole : bytes ≡ given ++ rest
  pub parts : parts_of given ≡ ended ++ [] ∷ []
  pub steps : List (List ℕ)
  pub accepts : Accepts at_start (map without_cr ended) steps p
  pub text : List ℕ
  pub written : Appends old now text
  pub printed : text ++ out ≡ concat steps

-- A replay of these bytes has come along to what is to come of them, where the end of the source was found or not.
pub record Streamed (bytes : List ℕ) (coming : Option (List ℕ)) (at_end : Bool) (old now : Option (List ℕ)) (p : Progress) (out : List ℕ) : Type 0 where
  pub rest : List ℕ
  pub comes : coming ≡ Some rest
  pub along : Along bytes old now p (lines rest) out
  pub before : at_end ≡ false → Before bytes rest old now p out

-- the same, where the bytes are known
abbrev pub Follows : Option (List ℕ) → Option (List ℕ) → Bool → Option (List ℕ) → Option (List ℕ) → Progress → List ℕ → Type 0
Follows known coming at_end old now p out = IfSome known (λ bytes. Streamed bytes coming at_end old now p out)

-- ---- the first line, and one line more
pub follows_start : (known old : Option (List ℕ)) (reader : LineState) (r : Replay) (out : List ℕ) → reader ≡ record { held = []; line = []; ended = false }
    → r ≡ record { stage = Heading first_draft; line = 1; steps = 0 } → out ≡ [] → Follows known (to_come reader known) reader.ended old old (progress_of r) out
follows_start None old reader r out is new none = tt
follows_start (Some bytes) old reader r out is new none =
    subst (λ (s : LineState). Streamed bytes (to_come s (Some bytes)) s.ended old old (progress_of r) out) (sym is) (record {
      rest = bytes;
      comes = refl;
      along = along_start bytes out old r new none;
      before = λ unended. record {
        given = [];
        ended = [];
        whole = refl;
        parts = refl;
        steps = [];
        accepts = (refl, ap progress_of new);
        text = [];
        written = Appends-nil old;
        printed = none;
      };
    })

pub follows_flush : (known coming : Option (List ℕ)) (at_end : Bool) (old now later : Option (List ℕ)) (p : Progress) (out after : List ℕ) (next : Next)
    → Follows known coming at_end old now p out → Flushes next out after now later → Follows known coming at_end old later p after
follows_flush None coming at_end old now later p out after next s f = tt
follows_flush (Some bytes) coming at_end old now later p out after next s (inl same) =
    subst (λ (o : List ℕ). Streamed bytes coming at_end old later p o) (sym same.1) (subst (λ (w : Option (List ℕ)). Streamed bytes coming at_end old w p out) (sym same.0) s)
follows_flush (Some bytes) coming at_end old now later p out after next s (inr written) = record {
  rest = s.rest;
  comes = s.comes;
  along = along_flush bytes old now later p (lines s.rest) out after s.along written.0 written.1;
  before = λ unended.
      let b = s.before unended in
      record {
        given = b.given;
        ended = b.ended;
        whole = b.whole;
        parts = b.parts;
        steps = b.steps;
        accepts = b.accepts;
        text = b.text ++ out;
        written = Appends-trans old now later b.text out b.written written.0;
        printed = ap (λ (o : List ℕ). (b.text ++ out) ++ o) written.1 ∙ append-nil (b.text ++ out) ∙ b.printed;
      };
}

-- before the source was asked, and failed, all that was printed was written
pub flushed_all : (next : Next) (before after : List ℕ) (old new : Option (List ℕ)) → next ≡ Failed → Flushes next before after old new → after ≡ []
flushed_all next before after old new is (inl same) = absurd (same.2 is)
flushed_all next before after old new is (inr written) = written.1

accepts_more : (p : Progress) (lines steps : List (List ℕ)) (q : Progress) (line : List ℕ) (j : Judgement) → Accepts p lines steps q → Judged q line j
    → Accepts p (lines ++ line ∷ []) (steps ++ (turn q j).1) (turn q j).0
accepts_more p [] steps q line j a judged =
    subst (λ (ss : List (List ℕ)). Accepts p (line ∷ []) (ss ++ (turn q j).1) (turn q j).0) (sym a.0)
    (subst (λ (o : Progress). Accepts o (line ∷ []) (turn q j).1 (turn q j).0) a.1 (j, judged, [], (refl, refl), sym (append-nil (turn q j).1)))
accepts_more p (first ∷ lines) steps q line j a judged =
    let rest = a.2 in
    (a.0, a.1, rest ++ (turn q j).1, accepts_more (turn p a.0).0 lines rest q line j a.3 judged, ap (λ (ss : List (List ℕ)). ss ++ (turn q j).1) a.4 ∙ append_assoc (turn p a.0).1 rest (turn q j).1)

pub not_both : (b : Bool) → b ≡ true → b ≡ false → ⊥
not_both b t f = cc

open_before : (was now : Bool) → (was ≡ true → now ≡ true) → now ≡ false → was ≡ false
open_before true now stays unended = absurd (not_both now (stays refl) unended)
open_before false now stays unended = refl

-- whole lines stand before the next one
before_more : (bytes rest left line out grown text : List ℕ) (old said : Option (List ℕ)) (p q : Progress) (now : Bool) (t : Turns p line q text) → now ≡ false → IsLineAndRest now rest line left
    → grown ≡ out ++ text → Before bytes rest old said p out → Before bytes left old said q grown
before_more bytes rest left line out grown text old said p q now t unended h is b = elim h.whole [
  | inr last ↦ absurd (not_both now last.0 unended)
  | inl ended ↦
      let with_end : List ℕ = h.with_cr ++ 10 ∷ [] in
      let added : List (List ℕ) = (turn p t.judgement).1 in
      let one : parts_of with_end ≡ h.with_cr ∷ [] ∷ [] =
      parts_meet h.with_cr (10 ∷ []) ∙ ap (λ (ps : List (List ℕ)). meet ps ([] ∷ [] ∷ [])) (one_part h.with_cr h.no_end) ∙ ap (λ (l : List ℕ). l ∷ [] ∷ []) (append-nil h.with_cr) in
      record {
        given = b.given ++ with_end;
        ended = b.ended ++ h.with_cr ∷ [];
        whole = b.whole ∙ ap (λ (l : List ℕ). b.given ++ l) (ended ∙ sym (append_assoc h.with_cr (10 ∷ []) left)) ∙ sym (append_assoc b.given with_end left);
        parts = parts_meet b.given with_end ∙ ap (λ (ps : List (List ℕ)). meet ps (parts_of with_end)) b.parts ∙ meet_last b.ended [] (parts_of with_end)
            ∙ ap (λ (ps : List (List ℕ)). b.ended ++ joined [] ps) one ∙ sym (append_assoc b.ended (h.with_cr ∷ []) ([] ∷ []));
        steps = b.steps ++ added;
        accepts =
            subst (λ (r : Progress). Accepts at_start (map without_cr (b.ended ++ h.with_cr ∷ [])) (b.steps ++ added) r) (sym t.next)
            (subst (λ (ls : List (List ℕ)). Accepts at_start ls (b.steps ++ added) (turn p t.judgement).0) (sym (map-append without_cr b.ended (h.with_cr ∷ []) ∙ ap (λ (l : List ℕ). map without_cr b.ended ++ l ∷ []) (trimmed_is h.with_cr line h.trimmed)))
            (accepts_more at_start (map without_cr b.ended) b.steps p line t.judgement b.accepts t.judged));
        text = b.text;
        written = b.written;
        printed =
            ap (λ (o : List ℕ). b.text ++ o) is
            ∙ sym (append_assoc b.text out text)
            ∙ ap (λ (o : List ℕ). o ++ text) b.printed
            ∙ ap (λ (o : List ℕ). concat b.steps ++ o) t.text_is
            ∙ sym (concat-append b.steps added);
      }
]

-- what comes after the first line
abbrev pub AfterLine : Option (List ℕ) → Option (List ℕ) → Bool → List ℕ → Type 0
AfterLine coming after at_end line = IfSome coming (λ bytes. (rest : List ℕ) × (after ≡ Some rest) × IsLineAndRest at_end bytes line rest)

after_known : (coming after : Option (List ℕ)) (at_end : Bool) (line rest : List ℕ) → coming ≡ Some rest → AfterLine coming after at_end line
    → (left : List ℕ) × (after ≡ Some left) × IsLineAndRest at_end rest line left
after_known coming after at_end line rest is g = subst (λ (o : Option (List ℕ)). AfterLine o after at_end line) is g

pub follows_line : (known coming after : Option (List ℕ)) (was at_end : Bool) (old now : Option (List ℕ)) (p q : Progress) (line out grown text : List ℕ)
    → Follows known coming was old now p out → (was ≡ true → at_end ≡ true) → AfterLine coming after at_end line → Turns p line q text → grown ≡ out ++ text → Follows known after at_end old now q grown
follows_line None coming after was at_end old now p q line out grown text s stays g t is = tt
follows_line (Some bytes) coming after was at_end old now p q line out grown text s stays g t is =
    let next = after_known coming after at_end line s.rest s.comes g in
    record {
      rest = next.0;
      comes = next.1;
      along = along_turn bytes old now p q line (lines s.rest) (lines next.0) out grown text s.along (first_line at_end s.rest line next.0 next.2) t is;
      before = λ unended. before_more bytes s.rest next.0 line out grown text old now p q at_end t unended next.2 is (s.before (open_before was at_end stays unended));
    }

-- each line that is accepted counts as one, and is within the limit
accepted_within : (p : Progress) (line : List ℕ) (judgement : Judgement) → Judged p line judgement → p.line ≤ most_lines
accepted_within p line Passes j = j.0
accepted_within p line (Sets settings) j = j.0.in_limit
accepted_within p line (SetsExtra extra settings) j = j.0.in_limit
accepted_within p line (Steps event done) j = j.0.in_limit

next_number : (p : Progress) (judgement : Judgement) → (turn p judgement).0.line ≡ p.line + 1
next_number p Passes = refl
next_number p (Sets settings) = refl
next_number p (SetsExtra extra settings) = refl
next_number p (Steps event done) = refl

pub fewer_lines : (r s : Replay) (line text : List ℕ) → Turns (progress_of r) line (progress_of s) text → 200002 - s.line < 200002 - r.line
fewer_lines r s line text t =
    let within = accepted_within (progress_of r) line t.judgement t.judged in
    let next = ap (λ (p : Progress). p.line) t.next ∙ next_number (progress_of r) t.judgement in
    let old = progress_line r.stage r.line in
    let new = progress_line s.stage s.line in
    omega (arith, within, next, old, new)

-- ---- the ways in which it ends
pub follows_stop : (known coming after left : Option (List ℕ)) (was at_end : Bool) (old now later : Option (List ℕ)) (p q : Progress) (line out grown : List ℕ) (stop : Stop) (number : ℕ) (answer : Status) (w0 w1 : ℕ)
    → Follows known coming was old now p out → AfterLine coming after at_end line → TurnAnswers (Err stop) line p q out grown → number ≡ p.line → Ended (Err stop) number grown answer w0 w1 now later → Promises known left answer old later
follows_stop None coming after left was at_end old now later p q line out grown stop number answer w0 w1 s g t n w = tt
follows_stop (Some bytes) coming after left was at_end old now later p q line out grown stop number answer w0 w1 s g t n w =
    let next = after_known coming after at_end line s.rest s.comes g in
    along_stop stop bytes left old now later p q line (lines s.rest) (lines next.0) out grown number answer w0 w1 s.along (first_line at_end s.rest line next.0 next.2) t n w

pub follows_long : (known coming after left : Option (List ℕ)) (was : Bool) (old now later : Option (List ℕ)) (p : Progress) (line out : List ℕ) (code : Code) (number : ℕ) (answer : Status) (w0 w1 : ℕ)
    → Follows known coming was old now p out → most_line < length line → IfSome coming (λ bytes. (after ≡ Some bytes) × BeginsLine bytes line)
    → ((other : List ℕ) → most_bytes < length other → IsRefused p other code) → number ≡ p.line → Ended (Err (Refused code)) number out answer w0 w1 now later → Promises known left answer old later
follows_long None coming after left was old now later p line out code number answer w0 w1 s long g refused n w = tt
follows_long (Some bytes) coming after left was old now later p line out code number answer w0 w1 s long g refused n w =
    let begins = (subst (λ (o : Option (List ℕ)). IfSome o (λ bytes. (after ≡ Some bytes) × BeginsLine bytes line)) s.comes g).1 in
    let first = long_first s.rest line begins long in
    along_refusal bytes left old now later p (lines s.rest) out out code number answer w0 w1 s.along
    (subst (λ (ls : List (List ℕ)). Replays p ls [] (Stopped code number)) (sym first.2) (inl (code, refused first.0 first.3, refl, ap (Stopped code) n))) refl w

pub follows_end : (known coming after left : Option (List ℕ)) (was : Bool) (old now later : Option (List ℕ)) (p : Progress) (out : List ℕ) (answer : Status) (w0 w1 : ℕ)
    → Follows known coming was old now p out → IfSome coming (λ bytes. (bytes ≡ []) × (after ≡ Some [])) → EndsWith p out answer w0 w1 now later → Promises known left answer old later
follows_end None coming after left was old now later p out answer w0 w1 s g e = tt
follows_end (Some bytes) coming after left was old now later p out answer w0 w1 s g e =
    let none = (subst (λ (o : Option (List ℕ)). IfSome o (λ bytes. (bytes ≡ []) × (after ≡ Some []))) s.comes g).0 in
    along_finish e.0 bytes left old now later p (lines s.rest) out e.1 p.line answer w0 w1 s.along (ap lines none) e.2 refl e.3

pub follows_unwritten : (known coming left : Option (List ℕ)) (was : Bool) (old now later : Option (List ℕ)) (p : Progress) (out : List ℕ)
    → Follows known coming was old now p out → AppendsPrefix now later out → Promises known left Write old later
follows_unwritten None coming left was old now later p out s f = tt
follows_unwritten (Some bytes) coming left was old now later p out s f = along_fails bytes left old now later p (lines s.rest) out s.along f

-- the source failed: all that was printed is written
cut_short : (bytes rest held more out : List ℕ) (old now : Option (List ℕ)) (p : Progress) (b : Before bytes rest old now p out) → rest ≡ held ++ more → HasNoEnd held → out ≡ []
    → (given : List ℕ) × (bytes ≡ given ++ more) × IsTextOfEnded given b.text
cut_short bytes rest held more out old now p b is none empty = (
  b.given ++ held,
  b.whole ∙ ap (λ (l : List ℕ). b.given ++ l) is ∙ sym (append_assoc b.given held more),
  (
    b.ended,
    held,
    parts_meet b.given held ∙ ap (λ (ps : List (List ℕ)). meet ps (parts_of held)) b.parts ∙ meet_last b.ended [] (parts_of held) ∙ ap (λ (ps : List (List ℕ)). b.ended ++ joined [] ps) (one_part held none),
    b.steps,
    p,
    b.accepts,
    sym (append-nil b.text) ∙ ap (λ (o : List ℕ). b.text ++ o) (sym empty) ∙ b.printed,
  ),
)

fails_with : (bytes given more text : List ℕ) (left old now later : Option (List ℕ)) (answer : Status) (w0 w1 : ℕ) → bytes ≡ given ++ more → left ≡ Some more → IsTextOfEnded given text → Appends old now text
    → Written Read read_line answer w0 w1 now later → Prints bytes left answer old later
fails_with bytes given more text left old now later answer w0 w1 whole is ended a (inl w) =
    subst (λ (s : Status). Prints bytes left s old later) (sym w.0)
    (given, more, whole, is, text ++ read_line, (text, ended, refl), Appends-trans old now later text read_line a w.2)
fails_with bytes given more text left old now later answer w0 w1 whole is ended a (inr w) =
    subst (λ (s : Status). Prints bytes left s old later) (sym w.0)
    (text ++ read_line, inr (inr (given, more, whole, (text, ended, refl))), AppendsPrefix-after old now later text read_line a w.2)

-- what a reader that has not found the end holds, and what its source has left, is to come
left_of : (new : LineState) (left : Option (List ℕ)) (rest : List ℕ) → new.ended ≡ false → to_come new left ≡ Some rest → (more : List ℕ) × (left ≡ Some more) × (rest ≡ new.held ++ more)
left_of new None rest unended is = absurd (let none : to_come new None ≡ None = rw unended refl in cc)
left_of new (Some more) rest unended is =
    let some : to_come new (Some more) ≡ Some (new.held ++ more) = rw unended refl in (more, refl, inside (sym is ∙ some))
  where
    inside : {a b : List ℕ} → Some a ≡ Some b → a ≡ b
    inside e = cc

pub follows_failed : (known coming left : Option (List ℕ)) (was : Bool) (new : LineState) (old now later : Option (List ℕ)) (p : Progress) (out : List ℕ) (answer : Status) (w0 w1 : ℕ)
    → Follows known coming was old now p out → (was ≡ true → new.ended ≡ true) → Gives Failed new coming (to_come new left) → out ≡ [] → Written Read read_line answer w0 w1 now later → Promises known left answer old later
follows_failed None coming left was new old now later p out answer w0 w1 s stays g empty w = tt
follows_failed (Some bytes) coming left was new old now later p out answer w0 w1 s stays g empty w =
    let kept = subst (λ (o : Option (List ℕ)). IfSome o (λ bytes. to_come new left ≡ Some bytes)) s.comes g.2 in
    let l = left_of new left s.rest g.0 kept in
    let b = s.before (open_before was new.ended stays g.0) in
    let c = cut_short bytes s.rest new.held l.0 out old now p b l.2 g.1 empty in
    fails_with bytes c.0 l.0 b.text left old now later answer w0 w1 c.1 l.1 c.2 b.written w

-- ---- the end of the source
pub at_source_end : (known before after : Option (List ℕ)) (reader : LineState) (ended : Bool) (old now : Option (List ℕ)) (p : Progress) (out : List ℕ) → Follows known (to_come reader before) reader.ended old now p out
    → (reader.ended ≡ true → IfSome known (λ all. IsAtEnd before)) → (ended ≡ true → EndedBy reader.ended before after) → ended ≡ true → IfSome known (λ all. IsAtEnd after)
at_source_end None before after reader ended old now p out s was now_ended is = tt
at_source_end (Some bytes) before after reader ended old now p out s was now_ended is = by_end reader.ended refl
  where
    by_end : (b : Bool) → reader.ended ≡ b → IsAtEnd after
    by_end true e =
        let same : after ≡ before = subst (λ (b : Bool). EndedBy b before after) e (now_ended is) in
        subst IsAtEnd (sym same) (was e)
    by_end false e =
        let l = left_of reader before s.rest e s.comes in
        subst (λ (o : Option (List ℕ)). IfSome o (λ left. IsAtEnd after)) l.1 (subst (λ (b : Bool). EndedBy b before after) e (now_ended is))

-- what an answer that is known says
pub gives_as : (next known : Next) (new : LineState) (before after : Option (List ℕ)) → next ≡ known → Gives next new before after → Gives known new before after
gives_as next known new before after is g = subst (λ (n : Next). Gives n new before after) is g

pub cause_as : (next known : Next) (old new : ℕ) → next ≡ known → NextCause old new next → NextCause old new known
cause_as next known old new is c = subst (NextCause old new) is c
