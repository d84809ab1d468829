-- After any allowed moves at most one running node is active.
use Rattle.std.proofs.Common.{◌≡◌, List, [], ◌∷◌, is_some, refl, sym, ap, true≢false}
use Rattle.ak_line.specs.Name.{Name}
use Rattle.ak_promise.specs.Ballot.{BallotModel}
use Rattle.ak_line.specs.Line.{Line, IsLine, IsStrict}
use Rattle.ak_line.specs.Moves.{Trial, Active, Cluster, Move, runs, unstarted, AllAllowed, after, after_all}
use Rattle.ak_line.specs.Promised.{Promised}
use Rattle.ak_address.proofs.Elements.{contains_nothing}
use Rattle.ak_line.proofs.Kept.{kept}
use Rattle.ak_line.proofs.OneSingleton.{one_singleton}

module _ {V : Type 0} (l : Line V) (line : IsLine V l) (above : BallotModel → BallotModel → Type 0) (strict : IsStrict above) where
  pub at_first : Promised l above (unstarted l above)
  at_first = record {
    finished = λ i q h. absurd (contains_nothing q h);
    own = λ i t live. absurd live;
    descends = λ i. tt;
    newest = λ i. refl;
    known = λ i b h. absurd (contains_nothing b h);
    named = λ p h. absurd (contains_nothing p h);
    binds = λ y x c lives h. absurd (contains_nothing c h);
    granters = λ y z t live g. absurd live;
    grants = λ z c f m h. absurd (contains_nothing _ h);
    dead = λ y z h f said lives. absurd lives.live;
    let_go = λ y x h last released lives. absurd lives.live;
    activations = λ x a is. absurd (true≢false (sym (ap is_some is)));
    active = λ x t is. absurd (cc);
    before = λ x early. refl;
  }

  pub all_kept : (w : Cluster V) (moves : List (Move V)) → Promised l above w → AllAllowed l above w moves → Promised l above (after_all l above w moves)
  all_kept w [] p allowed = p
  all_kept w (m ∷ moves) p allowed = all_kept (after l above w m) moves (kept l line above strict w p m allowed.0) allowed.1

  pub one_active : (moves : List (Move V)) → AllAllowed l above (unstarted l above) moves → (x y : Name) (s t : Trial V)
      → runs l above (after_all l above (unstarted l above) moves) x → runs l above (after_all l above (unstarted l above) moves) y
      → ((after_all l above (unstarted l above) moves).node x).phase ≡ Active s → ((after_all l above (unstarted l above) moves).node y).phase ≡ Active t → x ≡ y
  one_active moves allowed = one_singleton l line above (after_all l above (unstarted l above) moves) (all_kept (unstarted l above) moves at_first allowed)
