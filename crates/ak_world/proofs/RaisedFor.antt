-- Why members rise: to Up at the one founding, or from an agreed version that names them; to Leaving from Up. What was a cause
-- stays one.
use Rattle.std.proofs.Common.{List, ◌≡◌, ℕ, ◌<◌, ◌⊎◌, inl, inr, Some, slice_get, Contains, sym, ◌∙◌, subst}
use Rattle.ak_address.specs.Unique.{AddressModel, UniqueModel}
use Rattle.ak_clock.specs.Version.{Counts}
use Rattle.ak_member.specs.declared.effect.Effect.{Effect}
use Rattle.ak_member.specs.declared.effect.Effect.TheVariants.{Joined, Rise, Removed, Observed}
use Rattle.ak_member.specs.declared.status.Status.TheVariants.{Joining, WeaklyUp, Up, Leaving, Exiting, Down}
use Rattle.ak_member.specs.View.{View}
use Rattle.ak_leader.specs.Led.{IsMemberWith}
use Rattle.ak_history.specs.declared.entry.Entry.{Entry}
use Rattle.ak_history.specs.History.{IsBounded, view}
use Rattle.ak_history.specs.Shown.{Did, Rose, IsNamed}
use Rattle.ak_settings.specs.Settings.{SettingsModel, settling_size}
use Rattle.ak_node.specs.declared.node.State.{State}
use Rattle.ak_node.specs.Node.{me_of}
use Rattle.ak_world.specs.Remembered.{Remembered}
use Rattle.ak_world.proofs.Agreed.{IsAgreed, Grows, view_then, agreed_then}
use Rattle.ak_world.proofs.Basis.{Basis}
use Rattle.ak_world.proofs.OneFounder.{IsFounder}
use Rattle.ak_world.proofs.Rises.{did_then, named_then}

-- an entry is the founding: its author, the founder, was Joining before it and raised itself
pub record IsFoundation (r : Remembered) (entry : Entry) (base : Counts) : Type 0 where
  pub index : ℕ
  pub node : State
  pub at : slice_get r.world.nodes index ≡ Some node
  pub author : me_of node ≡ entry.author
  pub founder : IsFounder node
  pub number : ℕ
  pub rises : Contains entry.effects (Rise entry.author Up number)
  pub joining : IsMemberWith (view r.world.history base).standings entry.author Joining

-- why an entry raises a member to Up, and to Leaving
abbrev pub MayUp : Remembered → ℕ → List AddressModel → Entry → Counts → UniqueModel → Type 0
MayUp r size role entry base who = IsNamed r.world.history base who × (IsFoundation r entry base ⊎ IsAgreed r size role base)

abbrev pub WasUp : Remembered → Counts → UniqueModel → Type 0
WasUp r base who = (number : ℕ) × Rose r.world.history base who Up number

-- why an entry that was made from this version has an effect: told is only why a member counts, and that none is raised to Joining
abbrev pub MayDo : Remembered → ℕ → List AddressModel → Entry → Counts → Effect → Type 0
MayDo r size role entry base (Joined who) = Unit {0}
MayDo r size role entry base (Rise who Joining number) = ⊥
MayDo r size role entry base (Rise who WeaklyUp number) = Unit {0}
MayDo r size role entry base (Rise who Up number) = MayUp r size role entry base who
MayDo r size role entry base (Rise who Leaving number) = WasUp r base who
MayDo r size role entry base (Rise who Exiting number) = Unit {0}
MayDo r size role entry base (Rise who Down number) = Unit {0}
MayDo r size role entry base (Removed who confirmed) = Unit {0}
MayDo r size role entry base (Observed subjects) = Unit {0}

-- no foresight: a version that a process held names nobody that started at its address later
abbrev pub NoForesight : Remembered → Type 0
NoForesight r = (i j : ℕ) (n m : State) (v : Counts) → i < j → slice_get r.world.nodes i ≡ Some n → slice_get r.world.nodes j ≡ Some m → (me_of n).address ≡ (me_of m).address
    → Contains r.held (me_of n, v) → IsNamed r.world.history v (me_of m) → ⊥

pub record Raised (settings : SettingsModel) (r : Remembered) : Type 0 where
  pub basis : Basis settings r
  pub bounded : (who : UniqueModel) (v : Counts) → Contains r.held (who, v) → IsBounded r.world.history v
  pub no_foresight : NoForesight r
  pub may : (entry : Entry) (base : Counts) (x : Effect) → Contains r.based (entry, base) → Contains entry.effects x → MayDo r (settling_size settings.strategy) settings.role entry base x

-- the founder stays one
abbrev pub FoundersStay : Remembered → Remembered → Type 0
FoundersStay r s = (index : ℕ) (n : State) → slice_get r.world.nodes index ≡ Some n → IsFounder n → (m : State) × (slice_get s.world.nodes index ≡ Some m) × (me_of m ≡ me_of n) × IsFounder m

module _ (r s : Remembered) (g : Grows r s) (founders : FoundersStay r s) where
  foundation_then : (entry : Entry) (base : Counts) → IsBounded r.world.history base → IsFoundation r entry base → IsFoundation s entry base
  foundation_then entry base bounded f =
      let m = founders f.index f.node f.at f.founder in
      record {
        index = f.index;
        node = m.0;
        at = m.1;
        author = m.2 ∙ f.author;
        founder = m.3;
        number = f.number;
        rises = f.rises;
        joining = subst (λ (v : View). IsMemberWith v.standings entry.author Joining) (sym (view_then r s g base bounded)) f.joining;
      }

  pub may_then : (size : ℕ) (role : List AddressModel) (entry : Entry) (base : Counts) (x : Effect) → IsBounded r.world.history base → MayDo r size role entry base x → MayDo s size role entry base x
  may_then size role entry base (Joined who) bounded may = tt
  may_then size role entry base (Rise who Joining number) bounded may = may
  may_then size role entry base (Rise who WeaklyUp number) bounded may = tt
  may_then size role entry base (Rise who Up number) bounded may = (
    subst (λ h. IsNamed h base who) (sym g.grown) (named_then g.more r.world.history base who may.0),
    elim may.1 [ inl f ↦ inl (foundation_then entry base bounded f) | inr a ↦ inr (agreed_then r s g size role base a) ],
  )
  may_then size role entry base (Rise who Leaving number) bounded may = (may.0, subst (λ h. Did h base (Rise who Up may.0)) (sym g.grown) (did_then g.more r.world.history base (Rise who Up may.0) may.1))
  may_then size role entry base (Rise who Exiting number) bounded may = tt
  may_then size role entry base (Rise who Down number) bounded may = tt
  may_then size role entry base (Removed who confirmed) bounded may = tt
  may_then size role entry base (Observed subjects) bounded may = tt
