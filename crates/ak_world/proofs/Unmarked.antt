-- A step without an action that may break the margin or make a double leaves both as they were.
use Rattle.std.proofs.Common.{◌≡◌, ℕ, Bool, true, false, ◌||◌, List, [], ◌∷◌, Option, None, Some, refl, sym, ap, ◌∙◌, true≢false}
use Rattle.std.specs.List.{list_any}
use Rattle.std.proofs.lemmas.Map.Keys.{any_passes_from_place}
use Rattle.ak_wire.specs.declared.action.Action.{Action}
use Rattle.ak_wire.specs.declared.action.Action.TheVariants.{Send, Update, View, Settled, Active, Ended, Host, Gone, Entity, Deliver, Forward, Buffer, Drop, MarginEnd, Refused, Dead, Stopped}
use Rattle.ak_node.specs.declared.node.State.{State}
use Rattle.ak_world.specs.declared.margin.Margin.{Margin}
use Rattle.ak_world.specs.declared.margin.Margin.TheVariants.{Kept, Broken}
use Rattle.ak_world.specs.World.{Done}
use Rattle.ak_world.specs.Double.{Doubled}
use Rattle.ak_world.specs.DoubleMark.{StartsNone, NextDouble}
use Rattle.ak_world.specs.MarginMark.{running_end, or_else, first_end, broken_by, marked, may_mark}

-- of a list of which none may, the first may not, and none of the others
none_may : (a : Action) (actions : List Action) → list_any may_mark (a ∷ actions) ≡ false → (may_mark a ≡ false) × (list_any may_mark actions ≡ false)
none_may a actions none = by_test (may_mark a) refl
  where
    by_test : (b : Bool) → may_mark a ≡ b → (may_mark a ≡ false) × (list_any may_mark actions ≡ false)
    by_test true is = absurd (true≢false (ap (λ x. x || list_any may_mark actions) (sym is) ∙ none))
    by_test false is = (is, ap (λ x. x || list_any may_mark actions) (sym is) ∙ none)

-- such an action ends no margin
ends_none : (nodes : List State) (a : Action) → may_mark a ≡ false → running_end nodes a ≡ None
ends_none nodes (Send e) not = refl
ends_none nodes (Update number effects) not = refl
ends_none nodes View not = refl
ends_none nodes Settled not = refl
ends_none nodes (Active term) not = refl
ends_none nodes (Ended term) not = refl
ends_none nodes (Host shard number) not = refl
ends_none nodes (Gone shard) not = refl
ends_none nodes (Entity entity) not = refl
ends_none nodes (Deliver entity payload) not = refl
ends_none nodes (Forward entity payload) not = refl
ends_none nodes (Buffer entity payload) not = refl
ends_none nodes (Drop entity payload) not = refl
ends_none nodes (MarginEnd who) not = absurd (true≢false not)
ends_none nodes (Refused why) not = refl
ends_none nodes Dead not = refl
ends_none nodes Stopped not = refl

none_ends : (nodes : List State) (actions : List Action) → list_any may_mark actions ≡ false → first_end nodes actions ≡ None
none_ends nodes [] none = refl
none_ends nodes (a ∷ actions) none =
    let may_not = none_may a actions none in
    ap (λ o. or_else o (first_end nodes actions)) (ends_none nodes a may_not.0) ∙ none_ends nodes actions may_not.1

-- so the margin stays, and so does the first double
pub margin_stays : (margin : Margin) (step : ℕ) (done : Done) → list_any may_mark done.actions ≡ false → marked margin step done ≡ margin
margin_stays Kept step done none = ap (broken_by step done.node) (none_ends done.world.nodes done.actions none) ∙ by_node done.node
  where
    by_node : (node : Option ℕ) → broken_by step node None ≡ Kept
    by_node None = refl
    by_node (Some number) = refl
margin_stays (Broken earlier node member) step done none = refl

starts_none : (nodes : List State) (acting : ℕ) (actions : List Action) → list_any may_mark actions ≡ false → StartsNone nodes acting actions
starts_none nodes acting actions none = λ place entity at. absurd (true≢false (sym (any_passes_from_place may_mark actions place (Entity entity) at refl) ∙ none))

pub double_stays : (double : Option Doubled) (step : ℕ) (nodes : List State) (acted : Option ℕ) (actions : List Action) → list_any may_mark actions ≡ false → NextDouble double step nodes acted actions double
double_stays (Some d) step nodes acted actions none = refl
double_stays None step nodes None actions none = refl
double_stays None step nodes (Some acting) actions none = starts_none nodes acting actions none
