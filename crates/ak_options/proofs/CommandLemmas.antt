-- The words after a command's name ask for that command alone.
use Rattle.std.proofs.Common.{◌≡◌, ℕ, List, [], ◌∷◌, codes, Option, Result, Ok, Err, refl, sym, ◌∙◌, ap}
use Rattle.std.specs.Result.{IsErr}
use Rattle.std.specs.declared.alloc.AllocError.{AllocError}
use Rattle.std.proofs.lemmas.Bool.{false≢true}
use Rattle.ak_address.specs.Spelling.{SpellsAddress}
use Rattle.ak_address.specs.Unique.{AddressModel}
use Rattle.ak_options.specs.declared.command.Command.{Command}
use Rattle.ak_options.specs.declared.command.Command.TheVariants.{Replay, Sweep, Node, Ctl}
use Rattle.ak_options.specs.declared.command.Request.{Request}
use Rattle.ak_options.specs.Options.{Pair, words_of, IsOnce, IsNumberOnce}
use Rattle.ak_options.specs.Requests.{SpellsRequest}
use Rattle.ak_options.specs.Answers.{Answers, HoldsTexts}
use Rattle.ak_options.proofs.OptionLemmas.{AreOptions}
use Rattle.ak_options.specs.CommandLine.{AsksFor, SaysSweep, SaysNode, SaysCtl, node_options, ctl_options}
use Rattle.ak_options.proofs.Names.{differ}

-- the name and the words after it
pub same_name : (name other : List ℕ) (ws vs : List (List ℕ)) → name ∷ ws ≡ other ∷ vs → name ≡ other
same_name name other ws vs same = cc

pub same_rest : (name other : List ℕ) (ws vs : List (List ℕ)) → name ∷ ws ≡ other ∷ vs → ws ≡ vs
same_rest name other ws vs same = cc

pub only_sweep : (options : List (List ℕ)) → ((pairs : List Pair) → options ≡ words_of pairs → (first count events workers : ℕ) → SaysSweep pairs first count events workers → ⊥) →
    (command : Command) → AsksFor (codes "sweep" ∷ options) command → ⊥
only_sweep options none Replay asks = differ (codes "sweep") (codes "replay") refl (same_name (codes "sweep") (codes "replay") options (words_of asks.pairs) asks.whole)
only_sweep options none (Sweep first count events workers) asks = none asks.pairs (same_rest (codes "sweep") (codes "sweep") options (words_of asks.pairs) asks.whole) first count events workers asks.says
only_sweep options none (Node config ticks) asks = differ (codes "sweep") (codes "node") refl (same_name (codes "sweep") (codes "node") options (words_of asks.pairs) asks.whole)
only_sweep options none (Ctl to say) asks = differ (codes "sweep") (codes "ctl") refl (same_name (codes "sweep") (codes "ctl") options (words_of asks.pairs) asks.whole)

pub only_node : (options : List (List ℕ)) → ((pairs : List Pair) → options ≡ words_of pairs → (config : List ℕ) (ticks : ℕ) → SaysNode pairs config ticks → ⊥) →
    (command : Command) → AsksFor (codes "node" ∷ options) command → ⊥
only_node options none Replay asks = differ (codes "node") (codes "replay") refl (same_name (codes "node") (codes "replay") options (words_of asks.pairs) asks.whole)
only_node options none (Sweep first count events workers) asks = differ (codes "node") (codes "sweep") refl (same_name (codes "node") (codes "sweep") options (words_of asks.pairs) asks.whole)
only_node options none (Node config ticks) asks = none asks.pairs (same_rest (codes "node") (codes "node") options (words_of asks.pairs) asks.whole) config ticks asks.says
only_node options none (Ctl to say) asks = differ (codes "node") (codes "ctl") refl (same_name (codes "node") (codes "ctl") options (words_of asks.pairs) asks.whole)

pub only_ctl : (options : List (List ℕ)) → ((pairs : List Pair) → options ≡ words_of pairs → (to : AddressModel) (say : Request) → SaysCtl pairs to say → ⊥) →
    (command : Command) → AsksFor (codes "ctl" ∷ options) command → ⊥
only_ctl options none Replay asks = differ (codes "ctl") (codes "replay") refl (same_name (codes "ctl") (codes "replay") options (words_of asks.pairs) asks.whole)
only_ctl options none (Sweep first count events workers) asks = differ (codes "ctl") (codes "sweep") refl (same_name (codes "ctl") (codes "sweep") options (words_of asks.pairs) asks.whole)
only_ctl options none (Node config ticks) asks = differ (codes "ctl") (codes "node") refl (same_name (codes "ctl") (codes "node") options (words_of asks.pairs) asks.whole)
only_ctl options none (Ctl to say) asks = none asks.pairs (same_rest (codes "ctl") (codes "ctl") options (words_of asks.pairs) asks.whole) to say asks.says

-- memory that runs out where the words ask for a command that holds texts
pub at_err : (words : List (List ℕ)) (command : Command) → AsksFor words command → HoldsTexts command → (r : Result (Option Command) AllocError) → IsErr r → Answers words r
at_err words command asks holds (Ok found) err = absurd (false≢true err)
at_err words command asks holds (Err e) err = (command, asks, holds)

pub node_err : (options : List (List ℕ)) (config : List ℕ) (ticks : ℕ) → AreOptions node_options options →
    ((pairs : List Pair) → options ≡ words_of pairs → IsOnce (codes "--config") pairs config) →
    ((pairs : List Pair) → options ≡ words_of pairs → IsNumberOnce (codes "--ticks") 0 1000000000 pairs ticks) →
    (r : Result (Option Command) AllocError) → IsErr r → Answers (codes "node" ∷ options) r
node_err options config ticks are config_once ticks_once r err =
    let says : SaysNode are.0 config ticks = record { named = are.2; config_once = config_once are.0 are.1; ticks_once = ticks_once are.0 are.1 } in
    at_err (codes "node" ∷ options) (Node config ticks) (record { pairs = are.0; whole = ap (λ (ws : List (List ℕ)). codes "node" ∷ ws) are.1; says = says }) tt r err

pub ctl_err : (options : List (List ℕ)) (address text : List ℕ) (to : AddressModel) (say : Request) → AreOptions ctl_options options →
    ((pairs : List Pair) → options ≡ words_of pairs → IsOnce (codes "--to") pairs address) →
    ((pairs : List Pair) → options ≡ words_of pairs → IsOnce (codes "--say") pairs text) →
    SpellsAddress address to → SpellsRequest text say →
    (r : Result (Option Command) AllocError) → IsErr r → Answers (codes "ctl" ∷ options) r
ctl_err options address text to say are to_once say_once to_spelled say_spelled r err =
    let says : SaysCtl are.0 to say = record {
      named = are.2;
      address = address;
      to_once = to_once are.0 are.1;
      to_spelled = to_spelled;
      text = text;
      say_once = say_once are.0 are.1;
      say_spelled = say_spelled;
    } in
    at_err (codes "ctl" ∷ options) (Ctl to say) (record { pairs = are.0; whole = ap (λ (ws : List (List ℕ)). codes "ctl" ∷ ws) are.1; says = says }) tt r err

-- an option has one value at most
pub one_value : (name : List ℕ) (pairs : List Pair) (one other : List ℕ) → IsOnce name pairs one → IsOnce name pairs other → one ≡ other
one_value name pairs one other is same = let e : one ∷ [] ≡ other ∷ [] = sym is ∙ same in cc
