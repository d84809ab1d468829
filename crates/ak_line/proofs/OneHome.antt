-- After any allowed moves no shard is hosted at two running nodes, and no entity is active at two.
use Rattle.std.proofs.Common.{◌≡◌, inl, inr, List, [], ◌∷◌, Some, is_some, sym, ap, ◌∙◌, subst, arith, true≢false}
use Rattle.std.proofs.lemmas.Option.{same_Some}
use Rattle.ak_promise.specs.Ballot.{BallotModel}
use Rattle.ak_line.specs.Line.{Line, IsLine, IsStrict}
use Rattle.ak_line.specs.Shards.{Home}
use Rattle.ak_line.specs.Moves.{Cluster, Move, unstarted, Allowed, after, AllAllowed, after_all}
use Rattle.ak_line.specs.Floors.{Floors, Latest}
use Rattle.ak_line.specs.Placed.{Placed}
use Rattle.ak_line.specs.Reported.{Reported}
use Rattle.ak_line.specs.Hosted.{Hosted}
use Rattle.ak_line.specs.Safe.{Safe, OneHome, OnePlace, InTable}
use Rattle.ak_address.proofs.Elements.{contains_nothing}
use Rattle.ak_line.proofs.Kept.{kept}
use Rattle.ak_line.proofs.FloorsKept.{floors_kept}
use Rattle.ak_line.proofs.LatestKept.{latest_is_kept}
use Rattle.ak_line.proofs.PlacedKept.{placed_kept}
use Rattle.ak_line.proofs.ReportedKept.{reported_kept}
use Rattle.ak_line.proofs.HostedKept.{hosted_kept}
use Rattle.ak_line.proofs.OneActive.{at_first}

module _ {V : Type 0} (l : Line V) (line : IsLine V l) (above : BallotModel → BallotModel → Type 0) (strict : IsStrict above) where
  -- ---- at the start
  floors_first : Floors l above (unstarted l above)
  floors_first = record {
    follows = λ x z a act has. absurd (contains_nothing _ has);
    covered = λ x z a f act sent. absurd (true≢false (sym (ap is_some act)));
    answered = λ x z a c f m act sent higher has. absurd (contains_nothing _ has);
    heard = λ x y z a t act live granted higher has. absurd live;
  }

  latest_first : Latest l above (unstarted l above)
  latest_first = record {
    current = λ y t running active. absurd (cc);
    was_active = λ y latest. absurd (true≢false (sym (ap is_some latest)));
    rises = λ x y a b latest act_x act_y. absurd (true≢false (sym (ap is_some latest)));
  }

  placed_first : Placed l above (unstarted l above)
  placed_first = record {
    marked = λ r s more. absurd (omega arith);
    directed = λ r b s n told. elim told.1 [ inl one ↦ absurd (contains_nothing _ one) | inr two ↦ absurd (contains_nothing _ two) ];
    home = λ y s h at. absurd (true≢false (sym (ap is_some at)));
    granted = λ y t s h live at. absurd live;
    hosted = λ r s hosts. absurd (true≢false (sym hosts));
    reported = λ z c f m s sent. absurd (contains_nothing _ sent);
    stopped = λ r b s n sent. absurd (contains_nothing _ sent);
  }

  reported_first : Reported l above (unstarted l above)
  reported_first = record {
    agrees = λ y t running asking. absurd (cc);
    opened = λ y t live. absurd live;
    unremoved = λ y z t live granted removed. live;
  }

  hosted_first : Hosted l above (unstarted l above)
  hosted_first = record {
    housed = λ r s running hosts. absurd (true≢false (sym running));
    fenced = λ z r b s n sent running last. absurd (contains_nothing _ sent);
    needed = λ i r a latest act running touched. absurd (true≢false (sym running));
    stale = λ y z t s running asking has stays hosts. absurd (true≢false (sym running));
  }

  pub safe_first : Safe l above (unstarted l above)
  safe_first = record { promised = at_first l line above strict; floors = floors_first; latest = latest_first; placed = placed_first; reported = reported_first; hosted = hosted_first }

  -- ---- each move, and any moves
  pub safe_kept : (w : Cluster V) (m : Move V) → Safe l above w → Allowed l above w m → Safe l above (after l above w m)
  safe_kept w m s allowed = record {
    promised = kept l line above strict w s.promised m allowed;
    floors = floors_kept l line above strict w s.promised s.floors m allowed;
    latest = latest_is_kept l line above strict w s.promised s.floors s.latest m allowed;
    placed = placed_kept l line above strict w s.promised s.floors s.latest s.placed m allowed;
    reported = reported_kept l line above strict w s.promised s.floors s.placed s.reported m allowed;
    hosted = hosted_kept l line above strict w s.promised s.floors s.latest s.placed s.reported s.hosted m allowed;
  }

  pub safe_after : (w : Cluster V) (moves : List (Move V)) → Safe l above w → AllAllowed l above w moves → Safe l above (after_all l above w moves)
  safe_after w [] s allowed = s
  safe_after w (m ∷ moves) s allowed = safe_after (after l above w m) moves (safe_kept w m s allowed.0) allowed.1

-- ---- what it means
module _ {V : Type 0} (l : Line V) (above : BallotModel → BallotModel → Type 0) (w : Cluster V) (s : Safe l above w) where
  pub one_home : OneHome l above w
  one_home x y j at_x at_y =
      let a = s.hosted.housed x j at_x.0 at_x.1 in
      let b = s.hosted.housed y j at_y.0 at_y.1 in
      let home_x : Home = record { node = x; number = ((w.node x).marks j).number } in
      let home_y : Home = record { node = y; number = ((w.node y).marks j).number } in
      let same : a.0 ≡ b.0 = same_Some a.0 b.0 (sym a.1 ∙ b.1) in
      ap (λ (h : Home). h.node) (same_Some home_x home_y (sym (subst (λ i. ((w.node i).table j).home ≡ Some home_x) same a.2) ∙ b.2))

  pub in_table : InTable l above w
  in_table y x j t running active at =
      let a = s.hosted.housed x j at.0 at.1 in
      subst (λ i. ((w.node i).table j).home ≡ Some (record { node = x; number = ((w.node x).marks j).number })) (same_Some a.0 y (sym a.1 ∙ s.latest.current y t running active)) a.2

  pub one_entity : OnePlace l above w
  one_entity shard_of active only x y entity runs_x runs_y at_x at_y = one_home x y (shard_of entity) (runs_x, only x entity at_x) (runs_y, only y entity at_y)

-- ---- after any moves from the start
module _ {V : Type 0} (l : Line V) (line : IsLine V l) (above : BallotModel → BallotModel → Type 0) (strict : IsStrict above) (moves : List (Move V)) (allowed : AllAllowed l above (unstarted l above) moves) where
  abbrev end : Cluster V
  end = after_all l above (unstarted l above) moves

  pub always_safe : Safe l above (after_all l above (unstarted l above) moves)
  always_safe = safe_after l line above strict (unstarted l above) moves (safe_first l line above strict) allowed

  pub always_one_home : OneHome l above (after_all l above (unstarted l above) moves)
  always_one_home = one_home l above end always_safe

  pub always_in_table : InTable l above (after_all l above (unstarted l above) moves)
  always_in_table = in_table l above end always_safe

  pub always_one_place : OnePlace l above (after_all l above (unstarted l above) moves)
  always_one_place = one_entity l above end always_safe
