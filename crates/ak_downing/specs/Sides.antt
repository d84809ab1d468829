-- Two nodes that know the same members and have found different ones unreachable; and what a decision downs.
use Rattle.std.specs.Prelude.{◌≡◌, ℕ, false, IsTrue, Some, List, Contains}
use Rattle.std.specs.FinMap as map
use Rattle.ak_address.specs.Unique.{AddressModel, UniqueModel}
use Rattle.ak_member.specs.declared.effect.Effect.{Effect}
use Rattle.ak_member.specs.declared.effect.Effect.TheVariants.{Rise}
use Rattle.ak_member.specs.declared.status.Status.{Status}
use Rattle.ak_member.specs.declared.status.Status.TheVariants.{Down}
use Rattle.ak_member.specs.Standing.{Standings, member_of, is_down}
use Rattle.ak_member.specs.View.{View, RowTable}
use Rattle.ak_settings.specs.declared.settings.Strategy.{Strategy}
use Rattle.ak_reach.specs.Unreachable.{unreachable_members}
use Rattle.ak_downing.specs.declared.decision.Decision.{Decision}
use Rattle.ak_downing.specs.declared.decision.Decision.TheVariants.{DownUnreachable}
use Rattle.ak_downing.specs.Downing.{decide, is_against}

-- what a node knows that has these rows
abbrev pub seen_with : Standings → RowTable → View
seen_with members rows = record { standings = members; rows = rows }

-- no element is in both
abbrev pub HaveNoneInCommon : {X : Type 0} → List X → List X → Type 0
HaveNoneInCommon {X} xs ys = (x : X) → Contains xs x → Contains ys x → ⊥

-- each of the two nodes goes on and downs whom it finds unreachable
abbrev pub BothGoOn : Strategy → List AddressModel → View → UniqueModel → View → UniqueModel → Type 0
BothGoOn strategy role v me w you = (decide strategy role v me ≡ DownUnreachable) × (decide strategy role w you ≡ DownUnreachable)

-- an effect downs a member that is not Down and that the decision is against
pub record IsDowning (decided : Decision) (v : View) (me : UniqueModel) (effect : Effect) : Type 0 where
  pub who : UniqueModel
  pub status : Status
  pub number : ℕ
  pub member : member_of (map.get v.standings who) ≡ Some (status, number)
  pub not_down : is_down status ≡ false
  pub against : IsTrue (is_against decided (unreachable_members v) me who)
  pub effect_is : effect ≡ Rise who Down 0
