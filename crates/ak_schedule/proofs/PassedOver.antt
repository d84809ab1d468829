-- A line that is passed over is no event line and no header line, and no event line begins as an optional header does.
use Rattle.std.proofs.Common.{◌≡◌, ℕ, nat_eq, Bool, true, false, ◌==◌, ◌||◌, List, [], ◌∷◌, ap, sym, ◌∙◌, refl, arith, inl, inr, codes}
use Rattle.std.specs.Prelude.{filter}
use Rattle.std.specs.List.{slice_split, onto_first}
use Rattle.std.specs.Cmp.Lexicographic.{pointwise}
use Rattle.std.proofs.lemmas.Bool.{false≢true}
use Rattle.std.proofs.lemmas.Bool.Decides.{nat_tests, Decides-eqb}
use Rattle.ak_schedule.specs.declared.event.Event.{Event}
use Rattle.ak_schedule.specs.declared.event.Event.TheVariants.{Start, Found, Join, Tick, Deliver, Leave, Down, Offer, Stop}
use Rattle.ak_schedule.specs.declared.draft.Extra.{Extra}
use Rattle.ak_schedule.specs.declared.draft.Extra.TheVariants.{Weakly, Role, Types}
use Rattle.ak_schedule.specs.declared.draft.Header as header
use Rattle.ak_settings.specs.declared.settings.Strategy.{Strategy}
use Rattle.ak_settings.specs.declared.settings.Strategy.TheVariants.{StaticQuorum, KeepMajority, KeepOldest, DownAll}
use Rattle.ak_schedule.specs.Line.{words, begins, is_comment, IsPassedOver}
use Rattle.ak_settings.specs.Settings.{SettingsModel}
use Rattle.ak_schedule.specs.Schedule.{SpellsEvent, SpellsWords, SpellsStrategy, Sets, SetsHeader, NamesExtra, extra_name}
use Rattle.ak_schedule.specs.Kind as kind
use Rattle.ak_schedule.specs.Kind.{kind_name}
use Rattle.ak_schedule.proofs.EventWords.{event_kind, named}

-- the first byte of the first word, or 35, a comment's, where there is no word
abbrev first_byte : List (List ℕ) → ℕ
first_byte [] = 35
first_byte ([] ∷ ws) = 35
first_byte ((b ∷ bs) ∷ ws) = b

passed_byte : (line : List ℕ) → IsPassedOver line → first_byte (words line) ≡ 35
passed_byte line passed = elim passed.empty [ inl none ↦ rw none refl | inr comment ↦ of_comment line comment ]
  where
    joined : (b : ℕ) (parts : List (List ℕ)) → first_byte (filter begins (onto_first b parts)) ≡ b
    joined b [] = refl
    joined b (part ∷ parts) = refl

    of_comment : (line : List ℕ) → is_comment line ≡ true → first_byte (words line) ≡ 35
    of_comment [] h = refl
    of_comment (b ∷ bs) h =
        let is : b ≡ 35 = (Decides-eqb b 35).0 h in
        rw is (joined 35 (slice_split (λ x. x == 32) bs))

not_comment : (n b : ℕ) → b ≡ n → (n == 35) ≡ false → b ≡ 35 → ⊥
not_comment n b is other same = grind (arith, nat_tests)

event_byte : (ws : List (List ℕ)) (e : Event) → SpellsWords ws e → first_byte ws ≡ 35 → ⊥
event_byte ws (Start u) h same = not_comment 115 (first_byte ws) (ap first_byte h.1) refl same
event_byte ws (Found u) h same = not_comment 102 (first_byte ws) (ap first_byte h.1) refl same
event_byte ws (Join u t) h same = not_comment 106 (first_byte ws) (ap first_byte h.2) refl same
event_byte ws (Tick u word) h same = not_comment 116 (first_byte ws) (ap first_byte h.2) refl same
event_byte ws (Deliver packet) h same = not_comment 100 (first_byte ws) (ap first_byte h.1) refl same
event_byte ws (Leave u who) h same = not_comment 108 (first_byte ws) (ap first_byte h.2) refl same
event_byte ws (Down u who) h same = not_comment 100 (first_byte ws) (ap first_byte h.2) refl same
event_byte ws (Offer u entity payload) h same = not_comment 111 (first_byte ws) (ap first_byte h.2) refl same
event_byte ws (Stop u) h same = not_comment 115 (first_byte ws) (ap first_byte h.1) refl same

strategy_line : (ws : List (List ℕ)) (s : Strategy) → SpellsStrategy ws s → first_byte ws ≡ 115
strategy_line ws (StaticQuorum quorum) h = ap first_byte h.1
strategy_line ws KeepMajority h = ap first_byte h
strategy_line ws (KeepOldest alone) h = ap first_byte h
strategy_line ws DownAll h = ap first_byte h

header_byte : (which : header.Header) (ws : List (List ℕ)) (old new : SettingsModel) → Sets which ws old new → first_byte ws ≡ 35 → ⊥
header_byte header.TheVariants.Listed ws old new h same = not_comment 108 (first_byte ws) (ap first_byte h.1.1) refl same
header_byte header.TheVariants.Strategy ws old new h same = not_comment 115 (first_byte ws) (strategy_line ws h.0 h.1) refl same
header_byte header.TheVariants.Margin ws old new h same = not_comment 109 (first_byte ws) (ap first_byte h.1.1) refl same
header_byte header.TheVariants.Deadline ws old new h same = not_comment 100 (first_byte ws) (ap first_byte h.1.1) refl same
header_byte header.TheVariants.Stable ws old new h same = not_comment 115 (first_byte ws) (ap first_byte h.1.1) refl same
header_byte header.TheVariants.Shards ws old new h same = not_comment 115 (first_byte ws) (ap first_byte h.1.1) refl same
header_byte header.TheVariants.Buffer ws old new h same = not_comment 98 (first_byte ws) (ap first_byte h.1.1) refl same
header_byte header.TheVariants.Threshold ws old new h same = not_comment 116 (first_byte ws) (ap first_byte h.1.1) refl same
header_byte header.TheVariants.Limit ws old new h same = not_comment 108 (first_byte ws) (ap first_byte h.1.1) refl same

pub no_event : (line : List ℕ) (e : Event) → IsPassedOver line → SpellsEvent line e → ⊥
no_event line e passed spelt = event_byte (words line) e spelt.words (passed_byte line passed)

pub no_header : (which : header.Header) (line : List ℕ) (old new : SettingsModel) → IsPassedOver line → SetsHeader which line old new → ⊥
no_header which line old new passed sets = header_byte which (words line) old new sets.words (passed_byte line passed)

extra_byte : (ws : List (List ℕ)) → NamesExtra ws → first_byte ws ≡ 35 → ⊥
extra_byte ws (Weakly, rest, is) same = not_comment 119 (first_byte ws) (ap first_byte is) refl same
extra_byte ws (Role, rest, is) same = not_comment 114 (first_byte ws) (ap first_byte is) refl same
extra_byte ws (Types, rest, is) same = not_comment 116 (first_byte ws) (ap first_byte is) refl same

pub no_extra : (line : List ℕ) → IsPassedOver line → NamesExtra (words line) → ⊥
no_extra line passed names = extra_byte (words line) names (passed_byte line passed)

-- ---- the first words of events are those of no optional header
abbrev is_extra_word : List ℕ → Bool
is_extra_word word = pointwise nat_eq word (codes "weakly") || (pointwise nat_eq word (codes "role") || pointwise nat_eq word (codes "types"))

of_extra : (which : Extra) → is_extra_word (extra_name which) ≡ true
of_extra Weakly = refl
of_extra Role = refl
of_extra Types = refl

of_event : (k : kind.Kind) → is_extra_word (kind_name k) ≡ false
of_event kind.Start = refl
of_event kind.Found = refl
of_event kind.Join = refl
of_event kind.Tick = refl
of_event kind.Deliver = refl
of_event kind.Leave = refl
of_event kind.Down = refl
of_event kind.Offer = refl
of_event kind.Stop = refl

pub no_named_event : (line : List ℕ) (e : Event) → SpellsEvent line e → NamesExtra (words line) → ⊥
no_named_event line e spelt (which, rest, is) =
    let same : extra_name which ≡ kind_name (event_kind e) = named (words line) rest (extra_name which) is e spelt.words in
    false≢true (sym (of_event (event_kind e)) ∙ ap is_extra_word (sym same) ∙ of_extra which)
