-- A settled view's version is agreed: each counted member held exactly it. And an agreed version stays so.
use Rattle.std.proofs.Common.{◌≡◌, ℕ, ◌≤◌, List, ◌++◌, Contains, IsTrue, sym, ap, ◌∙◌, subst}
use Rattle.ak_address.specs.Unique.{AddressModel, UniqueModel}
use Rattle.ak_address.specs.Distinct.{distinct}
use Rattle.ak_clock.specs.Version.{Counts}
use Rattle.ak_member.specs.Age.{IsCounted, role_addresses}
use Rattle.ak_member.specs.View.{View}
use Rattle.ak_gossip.specs.Gossip.{GossipState}
use Rattle.ak_converge.specs.Convergence.{is_settled}
use Rattle.ak_converge.proofs.ConvergenceLaws.{settled_means}
use Rattle.ak_history.specs.declared.entry.Entry.{Entry}
use Rattle.ak_history.specs.History.{IsNumbered, IsBounded, view}
use Rattle.ak_history.proofs.HistoryLemmas.{bounded-prefix}
use Rattle.ak_history.proofs.ViewsMerged.{view-prefix}
use Rattle.ak_world.specs.Remembered.{Remembered, IsClosed}
use Rattle.ak_world.specs.Fold.{IsFold}
use Rattle.ak_world.proofs.SeenHeld.{Knew}

-- It shows enough addresses with the role of counted members, and each counted member held exactly it; and it is closed under what
-- authors knew.
pub record IsAgreed (r : Remembered) (size : ℕ) (role : List AddressModel) (v : Counts) : Type 0 where
  pub bounded : IsBounded r.world.history v
  pub closed : IsClosed r.based v
  pub enough : size ≤ distinct (role_addresses role (view r.world.history v).standings)
  pub held : (who : UniqueModel) (number : ℕ) → IsCounted (view r.world.history v).standings who number → Contains r.held (who, v)

pub settled_agreed : (r : Remembered) (size : ℕ) (role : List AddressModel) (g : GossipState) → IsFold r.world.history g → IsClosed r.based g.version → Knew r.held g → IsTrue (is_settled size role g.view g.seen) → IsAgreed r size role g.version
settled_agreed r size role g fold closed knew is =
    let s = (settled_means size role g.view g.seen).0 is in
    record {
      bounded = fold.bounded;
      closed = closed;
      enough = subst (λ (v : View). size ≤ distinct (role_addresses role v.standings)) fold.shown s.1;
      held = λ who number c. knew.each who (s.0.counted_seen who number (subst (λ (v : View). IsCounted v.standings who number) (sym fold.shown) c));
    }

-- more is remembered: entries came, versions were held, and what was closed still is
pub record Grows (r s : Remembered) : Type 0 where
  pub more : List Entry
  pub grown : s.world.history ≡ more ++ r.world.history
  pub numbered : IsNumbered s.world.history
  pub held : (x : UniqueModel × Counts) → Contains r.held x → Contains s.held x
  pub closed : (v : Counts) → IsBounded r.world.history v → IsClosed r.based v → IsClosed s.based v

module _ (r s : Remembered) (g : Grows r s) where
  pub bounded_then : (v : Counts) → IsBounded r.world.history v → IsBounded s.world.history v
  bounded_then v bounded = subst (λ h. IsBounded h v) (sym g.grown) (bounded-prefix g.more r.world.history v bounded)

  pub view_then : (v : Counts) → IsBounded r.world.history v → view s.world.history v ≡ view r.world.history v
  view_then v bounded = ap (λ h. view h v) g.grown ∙ view-prefix g.more r.world.history v (subst IsNumbered g.grown g.numbered) bounded

  -- an agreed version stays agreed
  pub agreed_then : (size : ℕ) (role : List AddressModel) (v : Counts) → IsAgreed r size role v → IsAgreed s size role v
  agreed_then size role v a =
      let same = view_then v a.bounded in
      record {
        bounded = bounded_then v a.bounded;
        closed = g.closed v a.bounded a.closed;
        enough = subst (λ (x : View). size ≤ distinct (role_addresses role x.standings)) (sym same) a.enough;
        held = λ who number c. g.held (who, v) (a.held who number (subst (λ (x : View). IsCounted x.standings who number) same c));
      }
