-- What is printed of an event spells it.
use Rattle.std.proofs.Common.{◌≡◌, ℕ, ◌+◌, ◌-◌, ◌^◌, ◌<◌, ◌≤◌, Bool, true, false, not, ◌==◌, List, [], ◌∷◌, ◌++◌, length, codes, ◌∙◌, ap, refl, arith, append_assoc, length-append}
use Rattle.std.specs.Prelude.{decimal}
use Rattle.std.specs.List.{list_all}
use Rattle.std.proofs.lemmas.List.Elements.{All-weaker}
use Rattle.std.proofs.lemmas.List.Sums.{AllPass-from_list_all}
use Rattle.std.proofs.lemmas.Bool.Decides.{nat_tests}
use Rattle.ak_field.specs.Ranges.{IsEntity}
use Rattle.ak_shard_id.specs.Division.{is_entity_byte}
use Rattle.ak_address.specs.Unique.{AddressModel, UniqueModel, IsUnique, IsAddress}
use Rattle.ak_address.specs.Spelling.{IsWord, IsNumber, address_text, unique_text}
use Rattle.ak_address.proofs.SpellingLemmas.{number_word, address_word, unique_word, number_text_spells, address_text_spells, unique_text_spells}
use Rattle.ak_schedule.specs.declared.event.Event.{Event}
use Rattle.ak_schedule.specs.declared.event.Event.TheVariants.{Start, Found, Join, Tick, Deliver, Leave, Down, Offer, Stop}
use Rattle.ak_schedule.specs.Kind as kind
use Rattle.ak_schedule.specs.Line.{words, begins, most_bytes}
use Rattle.ak_schedule.specs.Kind.{kind_name}
use Rattle.ak_schedule.proofs.LineParts.{IsPlain, next_words, one_word}
use Rattle.ak_schedule.specs.Schedule.{SpellsEvent, SpellsWords, SpellsNumber, IsEvent, IsSpelled, event_text}

no_space : (b : ℕ) → 32 < b → (b == 32) ≡ false
no_space b above = grind (arith, nat_tests)

begun_some : (word : List ℕ) → 1 ≤ length word → begins word ≡ true
begun_some [] some = absurd (omega arith)
begun_some (b ∷ bs) some = refl

plain_word : (word : List ℕ) → IsWord word → IsPlain word
plain_word word is = record {
  begun = begun_some word is.0;
  letters = All-weaker (λ b. (32 < b) × (b < 127)) (λ b. (b == 32) ≡ false) (λ b within. no_space b within.0) word is.1;
}

from_first : (b : ℕ) → is_entity_byte b ≡ true → 32 < b
from_first b printable = grind (arith, nat_tests)

plain_entity : (name : List ℕ) → IsEntity name → IsPlain name
plain_entity name is = record {
  begun = begun_some name is.not_empty;
  letters = All-weaker (λ b. is_entity_byte b ≡ true) (λ b. (b == 32) ≡ false) (λ b printable. no_space b (from_first b printable)) name (AllPass-from_list_all is_entity_byte name is.printable);
}

plain_number : (n : ℕ) → n < 2 ^ 64 → IsPlain (decimal n)
plain_number n fits = plain_word (decimal n) (number_word (decimal n) n (number_text_spells n fits))

plain_unique : (u : UniqueModel) → IsUnique u → IsPlain (unique_text u)
plain_unique u range = plain_word (unique_text u) (unique_word (unique_text u) u (unique_text_spells u range))

plain_address : (a : AddressModel) → IsAddress a → IsPlain (address_text a)
plain_address a range = plain_word (address_text a) (address_word (address_text a) a (address_text_spells a range))

pub plain_bytes : (word : List ℕ) → begins word ≡ true → list_all (λ b. not (b == 32)) word ≡ true → IsPlain word
plain_bytes word begun all = record {
  begun = begun;
  letters = All-weaker (λ b. not (b == 32) ≡ true) (λ b. (b == 32) ≡ false) (λ b. other (b == 32)) word (AllPass-from_list_all (λ b. not (b == 32)) word all);
}
  where
    other : (space : Bool) → not space ≡ true → space ≡ false
    other true h = cc
    other false h = refl

plain_name : (k : kind.Kind) → IsPlain (kind_name k)
plain_name kind.Start = plain_bytes (codes "start") refl refl
plain_name kind.Found = plain_bytes (codes "found") refl refl
plain_name kind.Join = plain_bytes (codes "join") refl refl
plain_name kind.Tick = plain_bytes (codes "tick") refl refl
plain_name kind.Deliver = plain_bytes (codes "deliver") refl refl
plain_name kind.Leave = plain_bytes (codes "leave") refl refl
plain_name kind.Down = plain_bytes (codes "down") refl refl
plain_name kind.Offer = plain_bytes (codes "offer") refl refl
plain_name kind.Stop = plain_bytes (codes "stop") refl refl

two : (a b : List ℕ) → IsPlain a → IsPlain b → words (a ++ 32 ∷ b) ≡ a ∷ b ∷ []
two a b first second = next_words a b first ∙ ap (λ (ws : List (List ℕ)). a ∷ ws) (one_word b second)

three : (a b c : List ℕ) → IsPlain a → IsPlain b → IsPlain c → words (a ++ 32 ∷ (b ++ 32 ∷ c)) ≡ a ∷ b ∷ c ∷ []
three a b c first second third = next_words a (b ++ 32 ∷ c) first ∙ ap (λ (ws : List (List ℕ)). a ∷ ws) (two b c second third)

four : (a b c d : List ℕ) → IsPlain a → IsPlain b → IsPlain c → IsPlain d → words (a ++ 32 ∷ (b ++ 32 ∷ (c ++ 32 ∷ d))) ≡ a ∷ b ∷ c ∷ d ∷ []
four a b c d first second third fourth = next_words a (b ++ 32 ∷ (c ++ 32 ∷ d)) first ∙ ap (λ (ws : List (List ℕ)). a ∷ ws) (three b c d second third fourth)

-- the parts of a text, joined from the left
joined_three : (n a s b : List ℕ) → n ++ a ++ s ++ b ≡ n ++ (a ++ (s ++ b))
joined_three n a s b = simp append_assoc

joined_four : (n a s b c : List ℕ) → n ++ a ++ s ++ b ++ s ++ c ≡ n ++ (a ++ (s ++ (b ++ (s ++ c))))
joined_four n a s b c = simp append_assoc

number_spelled : (least most n : ℕ) → least ≤ n → n ≤ most → n < 2 ^ 64 → SpellsNumber (decimal n) least most n
number_spelled least most n from to fits = record { number = number_text_spells n fits; from = from; to = to }

canonical_words : (e : Event) → IsEvent e → SpellsWords (words (event_text e)) e
canonical_words (Start u) range =
    (unique_text u, two (codes "start") (unique_text u) (plain_name kind.Start) (plain_unique u range), unique_text_spells u range)
canonical_words (Found u) range =
    (unique_text u, two (codes "found") (unique_text u) (plain_name kind.Found) (plain_unique u range), unique_text_spells u range)
canonical_words (Stop u) range =
    (unique_text u, two (codes "stop") (unique_text u) (plain_name kind.Stop) (plain_unique u range), unique_text_spells u range)
canonical_words (Deliver packet) range = (
  decimal packet,
  two (codes "deliver") (decimal packet) (plain_name kind.Deliver) (plain_number packet (omega arith)),
  number_spelled 0 (2 ^ 63 - 1) packet (omega arith) (omega arith) (omega arith),
)
canonical_words (Join u t) range = (
  unique_text u,
  address_text t,
  ap words (joined_three (codes "join ") (unique_text u) (codes " ") (address_text t))
      ∙ three (codes "join") (unique_text u) (address_text t) (plain_name kind.Join) (plain_unique u range.0) (plain_address t range.1),
  unique_text_spells u range.0,
  address_text_spells t range.1,
)
canonical_words (Tick u n) range = (
  unique_text u,
  decimal n,
  ap words (joined_three (codes "tick ") (unique_text u) (codes " ") (decimal n))
      ∙ three (codes "tick") (unique_text u) (decimal n) (plain_name kind.Tick) (plain_unique u range.0) (plain_number n (omega arith)),
  unique_text_spells u range.0,
  number_spelled 0 (2 ^ 32 - 1) n (omega arith) (omega arith) (omega arith),
)
canonical_words (Leave u who) range = (
  unique_text u,
  unique_text who,
  ap words (joined_three (codes "leave ") (unique_text u) (codes " ") (unique_text who))
      ∙ three (codes "leave") (unique_text u) (unique_text who) (plain_name kind.Leave) (plain_unique u range.0) (plain_unique who range.1),
  unique_text_spells u range.0,
  unique_text_spells who range.1,
)
canonical_words (Down u who) range = (
  unique_text u,
  unique_text who,
  ap words (joined_three (codes "down ") (unique_text u) (codes " ") (unique_text who))
      ∙ three (codes "down") (unique_text u) (unique_text who) (plain_name kind.Down) (plain_unique u range.0) (plain_unique who range.1),
  unique_text_spells u range.0,
  unique_text_spells who range.1,
)
canonical_words (Offer u entity n) range = (
  unique_text u,
  decimal n,
  ap words (joined_four (codes "offer ") (unique_text u) (codes " ") entity (decimal n))
      ∙ four (codes "offer") (unique_text u) entity (decimal n) (plain_name kind.Offer) (plain_unique u range.0) (plain_entity entity range.1) (plain_number n (omega arith)),
  unique_text_spells u range.0,
  range.1,
  number_spelled 0 (2 ^ 63 - 1) n (omega arith) (omega arith) (omega arith),
)

-- a delivery is `deliver`, a space and a number, whatever zeros that begins with
pub delivered_words : (digits : List ℕ) (packet : ℕ) → IsNumber digits packet → packet ≤ 2 ^ 63 - 1 → SpellsWords (words (codes "deliver " ++ digits)) (Deliver packet)
delivered_words digits packet number to = (
  digits,
  two (codes "deliver") digits (plain_name kind.Deliver) (plain_word digits (number_word digits packet number)),
  record { number = number; from = omega arith; to = to },
)

-- texts are short
number_length : (n : ℕ) → n < 2 ^ 64 → length (decimal n) ≤ 20
number_length n fits = (number_text_spells n fits).short

address_length : (a : AddressModel) → IsAddress a → length (address_text a) ≤ 85
address_length a range = omega (arith, length-append a.host (58 ∷ decimal a.port), range.host.short, number_length a.port (omega arith))

unique_length : (u : UniqueModel) → IsUnique u → length (unique_text u) ≤ 106
unique_length u range =
    omega (arith, length-append (address_text u.address) (35 ∷ decimal u.uid), address_length u.address range.address, number_length u.uid (omega arith))

three_length : (n a s b : List ℕ) → length (n ++ a ++ s ++ b) ≡ length n + length a + length s + length b
three_length n a s b = simp length-append

four_length : (n a s b c : List ℕ) → length (n ++ a ++ s ++ b ++ s ++ c) ≡ length n + length a + length s + length b + length s + length c
four_length n a s b c = simp length-append

canonical_length : (e : Event) → IsEvent e → length (event_text e) ≤ most_bytes
canonical_length (Start u) range = omega (arith, length-append (codes "start ") (unique_text u), unique_length u range)
canonical_length (Found u) range = omega (arith, length-append (codes "found ") (unique_text u), unique_length u range)
canonical_length (Stop u) range = omega (arith, length-append (codes "stop ") (unique_text u), unique_length u range)
canonical_length (Deliver n) range = omega (arith, length-append (codes "deliver ") (decimal n), number_length n (omega arith))
canonical_length (Join u t) range =
    omega (arith, three_length (codes "join ") (unique_text u) (codes " ") (address_text t), unique_length u range.0, address_length t range.1)
canonical_length (Tick u n) range =
    omega (arith, three_length (codes "tick ") (unique_text u) (codes " ") (decimal n), unique_length u range.0, number_length n (omega arith))
canonical_length (Leave u who) range =
    omega (arith, three_length (codes "leave ") (unique_text u) (codes " ") (unique_text who), unique_length u range.0, unique_length who range.1)
canonical_length (Down u who) range =
    omega (arith, three_length (codes "down ") (unique_text u) (codes " ") (unique_text who), unique_length u range.0, unique_length who range.1)
canonical_length (Offer u entity n) range =
    omega (arith, four_length (codes "offer ") (unique_text u) (codes " ") entity (decimal n), unique_length u range.0, range.1.short, number_length n (omega arith))

pub canonical : (e : Event) → IsEvent e → SpellsEvent (event_text e) e
canonical e range = record { short = canonical_length e range; words = canonical_words e range }

-- what some line spells is in range
pub IsSpelled-ranges : (e : Event) → IsSpelled e → IsEvent e
IsSpelled-ranges (Start u) (line, spelt) = spelt.words.2.range
IsSpelled-ranges (Found u) (line, spelt) = spelt.words.2.range
IsSpelled-ranges (Join u t) (line, spelt) = (spelt.words.3.range, spelt.words.4.range)
IsSpelled-ranges (Tick u word) (line, spelt) = (spelt.words.3.range, omega (arith, spelt.words.4.to))
IsSpelled-ranges (Deliver packet) (line, spelt) = omega (arith, spelt.words.2.to)
IsSpelled-ranges (Leave u who) (line, spelt) = (spelt.words.3.range, spelt.words.4.range)
IsSpelled-ranges (Down u who) (line, spelt) = (spelt.words.3.range, spelt.words.4.range)
IsSpelled-ranges (Offer u entity payload) (line, spelt) = (spelt.words.3.range, spelt.words.4, omega (arith, spelt.words.5.to))
IsSpelled-ranges (Stop u) (line, spelt) = spelt.words.2.range
