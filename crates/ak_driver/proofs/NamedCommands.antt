-- Whether the first word is the name of a command, and what is so where it is none.
use Rattle.std.proofs.Common.{◌≡◌, inl, inr, ℕ, Bool, true, false, List, [], ◌∷◌, Option, None, Some, IfSome, is_some, refl, sym, ap, ◌∙◌, subst, true≢false}
use Rattle.std.specs.Prelude.{◌↔◌, IsTrue, codes}
use Rattle.std.specs.List.{slice_get}
use Rattle.std.proofs.lemmas.Option.{same_Some}
use Rattle.ak_address.specs.Unique.{AddressModel}
use Rattle.ak_options.specs.CommandLine.{IsCommandName}
use Rattle.ak_options.specs.declared.command.Request.{Request}
use Rattle.ak_options.proofs.CommandLemmas.{same_name}
use Rattle.ak_driver.specs.WordsContracts.{NamesCommand, words_of}
use Rattle.ak_driver.specs.StatusContracts.{AsksReplay, AsksSweep, AsksNode, AsksControl}

-- ---- the first word
first_word : (all : List (List ℕ)) (word : List ℕ) → slice_get all 1 ≡ Some word → (rest : List (List ℕ)) × (words_of all ≡ word ∷ rest)
first_word [] word is = absurd (true≢false (sym (ap is_some is)))
first_word (x ∷ []) word is = absurd (true≢false (sym (ap is_some is)))
first_word (x ∷ y ∷ rest) word is = (rest, ap (λ (w : List ℕ). w ∷ rest) (same_Some _ _ is))

pub named : (known : Option (List (List ℕ))) (word : List ℕ) (b : Bool) → IfSome known (λ all. slice_get all 1 ≡ Some word) → (IsTrue b ↔ IsCommandName word)
    → IfSome known (λ all. IsTrue b ↔ NamesCommand (words_of all))
named None word b is says = tt
named (Some all) word b is says =
    let first = first_word all word is in (
      λ on. (word, first.0, first.1, says.0 on),
      λ names. says.1 (subst IsCommandName (same_name names.0 word names.1 first.0 (sym names.2 ∙ first.1)) names.3),
    )

-- ---- words whose first is no command's name ask for nothing
pub replay_named : (words : List (List ℕ)) → AsksReplay words → NamesCommand words
replay_named words asks = (codes "replay", [], asks, inl refl)

pub sweep_named : (words : List (List ℕ)) (first count events workers : ℕ) → AsksSweep words first count events workers → NamesCommand words
sweep_named words first count events workers asks = (codes "sweep", _, asks.whole, inr (inl refl))

pub node_named : (words : List (List ℕ)) (config : List ℕ) (ticks : ℕ) → AsksNode words config ticks → NamesCommand words
node_named words config ticks asks = (codes "node", _, asks.whole, inr (inr (inl refl)))

pub control_named : (words : List (List ℕ)) (to : AddressModel) (say : Request) → AsksControl words to say → NamesCommand words
control_named words to say asks = (codes "ctl", _, asks.whole, inr (inr (inr refl)))

-- the first word of known arguments is no command's name
abbrev pub Unnamed : Option (List (List ℕ)) → Type 0
Unnamed known = IfSome known (λ all. NamesCommand (words_of all) → ⊥)

pub is_unnamed : (known : Option (List (List ℕ))) (b : Bool) → b ≡ false → IfSome known (λ all. IsTrue b ↔ NamesCommand (words_of all)) → Unnamed known
is_unnamed None b off says = tt
is_unnamed (Some all) b off says = λ names. absurd (true≢false (sym (says.1 names) ∙ off))

pub is_named : (known : Option (List (List ℕ))) (b : Bool) → b ≡ true → IfSome known (λ all. IsTrue b ↔ NamesCommand (words_of all)) → IfSome known (λ all. NamesCommand (words_of all))
is_named None b on says = tt
is_named (Some all) b on says = says.0 on

pub no_replay : (known : Option (List (List ℕ))) (P : Type 0) → Unnamed known → IfSome known (λ all. AsksReplay (words_of all) → P)
no_replay None P un = tt
no_replay (Some all) P un = λ asks. absurd (un (replay_named (words_of all) asks))

pub no_sweep : (known : Option (List (List ℕ))) (P : ℕ → ℕ → ℕ → Type 0) → Unnamed known
    → IfSome known (λ all. (first count events workers : ℕ) → AsksSweep (words_of all) first count events workers → P first count events)
no_sweep None P un = tt
no_sweep (Some all) P un = λ first count events workers asks. absurd (un (sweep_named (words_of all) first count events workers asks))

pub no_node : (known : Option (List (List ℕ))) (P : List ℕ → ℕ → Type 0) → Unnamed known → IfSome known (λ all. (config : List ℕ) (ticks : ℕ) → AsksNode (words_of all) config ticks → P config ticks)
no_node None P un = tt
no_node (Some all) P un = λ config ticks asks. absurd (un (node_named (words_of all) config ticks asks))

pub no_control : (known : Option (List (List ℕ))) (P : AddressModel → Request → Type 0) → Unnamed known → IfSome known (λ all. (to : AddressModel) (say : Request) → AsksControl (words_of all) to say → P to say)
no_control None P un = tt
no_control (Some all) P un = λ to say asks. absurd (un (control_named (words_of all) to say asks))
