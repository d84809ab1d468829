-- What words ask for: one command, in one way.
use Rattle.std.proofs.Common.{◌≡◌, ℕ, ◌≤◌, List, [], Option, None, Some, Ok, Err, refl, ap, subst, arith}
use Rattle.std.specs.declared.alloc.AllocError.{AllocError}
use Rattle.ak_address.specs.Unique.{AddressModel}
use Rattle.ak_options.specs.declared.command.Command.{Command}
use Rattle.ak_options.specs.declared.command.Command.TheVariants.{Replay, Sweep, Node, Ctl}
use Rattle.ak_options.specs.declared.command.Request.{Request}
use Rattle.ak_options.specs.CommandLine.{AsksFor}
use Rattle.ak_options.specs.Answers.{Answers}
use Rattle.ak_options.proofs.OneCommand.{one_command}
use Rattle.ak_driver.specs.StatusContracts.{AsksReplay, AsksSweep, AsksNode, AsksControl, AsksOther, NoNode, NoControl}

pub asked_replay : (words : List (List ℕ)) → AsksReplay words → AsksFor words Replay
asked_replay words asks = record { pairs = []; whole = asks; says = refl }

-- ---- words that ask for no command
pub none_asked : (words : List (List ℕ)) (r : Option Command) → Answers words (Ok r) → r ≡ None → AsksReplay words → ⊥
none_asked words (Some command) answers is asks = cc
none_asked words None answers is asks = answers Replay (asked_replay words asks)

pub none_swept : (words : List (List ℕ)) (r : Option Command) → Answers words (Ok r) → r ≡ None → (first count events workers : ℕ) → AsksSweep words first count events workers → ⊥
none_swept words (Some command) answers is first count events workers asks = cc
none_swept words None answers is first count events workers asks = answers (Sweep first count events workers) asks

pub none_runs : (words : List (List ℕ)) (r : Option Command) → Answers words (Ok r) → r ≡ None → NoNode words
none_runs words (Some command) answers is config ticks asks = cc
none_runs words None answers is config ticks asks = answers (Node config ticks) asks

pub none_asks : (words : List (List ℕ)) (r : Option Command) → Answers words (Ok r) → r ≡ None → NoControl words
none_asks words (Some command) answers is to say asks = cc
none_asks words None answers is to say asks = answers (Ctl to say) asks

-- ---- words that ask for one
abbrev pub number_of : Command → ℕ
number_of Replay = 0
number_of (Sweep first count events workers) = 1
number_of (Node config ticks) = 2
number_of (Ctl to say) = 3

-- the command that a reading of the words answered
pub answered : (words : List (List ℕ)) (r : Option Command) (one command : Command) → Answers words (Ok r) → r ≡ Some one → one ≡ command → AsksFor words command
answered words r one command answers is same = subst (λ (k : Command). AsksFor words k) same (subst (λ (o : Option Command). Answers words (Ok o)) is answers)

pub same_kind : (words : List (List ℕ)) (one other : Command) → AsksFor words one → AsksFor words other → number_of one ≡ number_of other
same_kind words one other asks also = ap number_of (one_command words one other asks also)

pub no_replay : (words : List (List ℕ)) (one : Command) → AsksFor words one → 1 ≤ number_of one → AsksReplay words → ⊥
no_replay words one asks least also = let e = same_kind words one Replay asks (asked_replay words also) in omega (arith, e, least)

-- what is so of the sweep that the words ask for
abbrev by_sweep : (ℕ → ℕ → ℕ → Type 0) → Command → Type 0
by_sweep P (Sweep first count events workers) = P first count events
by_sweep P Replay = Unit {0}
by_sweep P (Node config ticks) = Unit {0}
by_sweep P (Ctl to say) = Unit {0}

pub swept_so : (words : List (List ℕ)) (P : ℕ → ℕ → ℕ → Type 0) (first count events workers : ℕ) → AsksSweep words first count events workers → P first count events
    → (f c e w : ℕ) → AsksSweep words f c e w → P f c e
swept_so words P first count events workers asked so f c e w asks =
    subst (by_sweep P) (one_command words (Sweep first count events workers) (Sweep f c e w) asked asks) so

-- and of the node
abbrev by_node : (List ℕ → ℕ → Type 0) → Command → Type 0
by_node P (Node config ticks) = P config ticks
by_node P Replay = Unit {0}
by_node P (Sweep first count events workers) = Unit {0}
by_node P (Ctl to say) = Unit {0}

pub ran_so : (words : List (List ℕ)) (P : List ℕ → ℕ → Type 0) (config : List ℕ) (ticks : ℕ) → AsksNode words config ticks → P config ticks → (name : List ℕ) (most : ℕ) → AsksNode words name most → P name most
ran_so words P config ticks asked so name most asks = subst (by_node P) (one_command words (Node config ticks) (Node name most) asked asks) so

-- and of what asks one
abbrev by_control : (AddressModel → Request → Type 0) → Command → Type 0
by_control P (Ctl to say) = P to say
by_control P Replay = Unit {0}
by_control P (Sweep first count events workers) = Unit {0}
by_control P (Node config ticks) = Unit {0}

pub asked_so : (words : List (List ℕ)) (P : AddressModel → Request → Type 0) (to : AddressModel) (say : Request) → AsksControl words to say → P to say → (at : AddressModel) (what : Request) → AsksControl words at what → P at what
asked_so words P to say asked so at what asks = subst (by_control P) (one_command words (Ctl to say) (Ctl at what) asked asks) so

-- ---- words that ask for a command that holds texts
pub texts_no_replay : (words : List (List ℕ)) (e : AllocError) → Answers words (Err e) → AsksReplay words → ⊥
texts_no_replay words e (Replay, asks, holds) also = holds
texts_no_replay words e (Sweep first count events workers, asks, holds) also = holds
texts_no_replay words e (Node config ticks, asks, holds) also = no_replay words (Node config ticks) asks (omega arith) also
texts_no_replay words e (Ctl to say, asks, holds) also = no_replay words (Ctl to say) asks (omega arith) also

pub texts_no_sweep : (words : List (List ℕ)) (e : AllocError) → Answers words (Err e) → (first count events workers : ℕ) → AsksSweep words first count events workers → ⊥
texts_no_sweep words e (Replay, asks, holds) f c n w also = holds
texts_no_sweep words e (Sweep first count events workers, asks, holds) f c n w also = holds
texts_no_sweep words e (Node config ticks, asks, holds) f c n w also = let same = same_kind words (Node config ticks) (Sweep f c n w) asks also in omega (arith, same)
texts_no_sweep words e (Ctl to say, asks, holds) f c n w also = let same = same_kind words (Ctl to say) (Sweep f c n w) asks also in omega (arith, same)

pub texts_some : (words : List (List ℕ)) (e : AllocError) → Answers words (Err e) → AsksOther words → ⊥
texts_some words e (Replay, asks, holds) other = holds
texts_some words e (Sweep first count events workers, asks, holds) other = holds
texts_some words e (Node config ticks, asks, holds) other = other.no_node config ticks asks
texts_some words e (Ctl to say, asks, holds) other = other.no_control to say asks
