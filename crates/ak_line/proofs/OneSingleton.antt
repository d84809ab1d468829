-- At most one running node is active.
use Rattle.std.proofs.Common.{◌≡◌, inl, inr, Some, refl, sym, ap, ◌∙◌, subst, true≢false}
use Rattle.std.proofs.lemmas.Option.{same_Some}
use Rattle.ak_line.specs.Name.{Name}
use Rattle.ak_promise.specs.Ballot.{BallotModel}
use Rattle.ak_line.specs.Line.{Line, IsLine}
use Rattle.ak_line.specs.Moves.{Trial, Phase, Active, Activation, Cluster, IsLive, runs}
use Rattle.ak_line.specs.Promised.{Lives, Promised}

module _ {V : Type 0} (l : Line V) (line : IsLine V l) (above : BallotModel → BallotModel → Type 0) (w : Cluster V) (p : Promised l above w) where
  live_active : (i : Name) (t : Trial V) → (w.node i).phase ≡ Active t → IsLive l above (w.node i).phase t
  live_active i t is = subst (λ (q : Phase V). IsLive l above q t) (sym is) refl

  lives : (y : Name) (t : Trial V) → runs l above w y → (w.node y).phase ≡ Active t → Lives l above w y t.ballot
  lives y t running is = record { is_running = running; trial = t; live = live_active y t is; is_ballot = refl }

  -- where the version with which the first became active is below that of the second, the second's ballot is the first's
  ordered : (x y : Name) (s t : Trial V) (a b : Activation V) → runs l above w x → runs l above w y → (w.node x).phase ≡ Active s → (w.node y).phase ≡ Active t
      → (w.node x).activation ≡ Some a → (w.node y).activation ≡ Some b → l.below a.first b.first → x ≡ y
  ordered x y s t a b runs_x runs_y is_x is_y act_x act_y below =
      let d = p.activations y b act_y in
      elim (d.census x (line.still_aged a.first b.first x below (p.activations x a act_x).itself)) [
        | inl promised ↦
            let live = p.own x s (live_active x s is_x) in
            let same : t.ballot ≡ b.ballot = (d.current t is_y).0 in
            let bound = p.binds y x b.ballot (subst (Lives l above w y) same (lives y t runs_y is_y)) promised in
            sym live.2 ∙ ap (λ (e : BallotModel). e.unique) (same_Some s.ballot b.ballot (sym live.0 ∙ bound.0)) ∙ d.own
        | inr gone ↦ absurd (true≢false (sym runs_x ∙ gone.1))
      ]

  pub one_singleton : (x y : Name) (s t : Trial V) → runs l above w x → runs l above w y → (w.node x).phase ≡ Active s → (w.node y).phase ≡ Active t → x ≡ y
  one_singleton x y s t runs_x runs_y is_x is_y =
      let a = p.active x s is_x in
      let b = p.active y t is_y in
      elim (line.total a.0.first b.0.first (p.activations x a.0 a.1).first_on (p.activations y b.0 b.1).first_on) [
        | inl below ↦ ordered x y s t a.0 b.0 runs_x runs_y is_x is_y a.1 b.1 below
        | inr below ↦ sym (ordered y x t s b.0 a.0 runs_y runs_x is_y is_x b.1 a.1 below)
      ]
