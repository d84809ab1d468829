-- Versions that are numbers stand in a line, so what is true after any moves is true of moves over them.
use Rattle.std.proofs.Common.{ℕ, ◌≤◌, ◌⊎◌, inl, inr, List, Option, Some, None, arith}
use Rattle.std.proofs.Math.Nat.{le-max_left, le-max_right, max-le}
use Rattle.std.proofs.lemmas.Bool.Decides.{leb_tells}
use Rattle.ak_line.specs.Line.{IsLine}
use Rattle.ak_line.specs.Moves.{Move}
use Rattle.ak_line.specs.BallotOrder.{IsLater}
use Rattle.ak_line.specs.Safe.{OneActive, OneHome, OnePlace, InTable}
use Rattle.ak_line.specs.Numbers.{Ages, HasCome, numbers, AreAllowed, cluster_after}
use Rattle.ak_line.proofs.BallotOrderLaws.{later_strict}
use Rattle.ak_line.proofs.OneActive.{one_active}
use Rattle.ak_line.proofs.OneHome.{always_one_home, always_one_place, always_in_table}

still_come : (o : Option ℕ) (v w : ℕ) → v ≤ w → HasCome o v → HasCome o w
still_come None v w below come = come
still_come (Some n) v w below come = omega (arith, below, come)

either_way : (v w : ℕ) → (v ≤ w) ⊎ (w ≤ v)
either_way v w = elim (leb_tells v w) [ inl below ↦ inl below.1 | inr above ↦ let less = above.1 in inr (omega (arith, less)) ]

pub numbers_line : (a : Ages) → IsLine ℕ (numbers a)
numbers_line a = record {
  reflexive = λ v. omega arith;
  transitive = λ u v w p q. omega (arith, p, q);
  least = λ v. omega arith;
  first = λ v w. le-max_left v w;
  second = λ v w. le-max_right v w;
  covers = λ u v w p q. max-le p q;
  total = λ v w p q. either_way v w;
  still_aged = λ v w i below come. still_come (a.aged i) v w below come;
  still_removed = λ v w i below come. (still_come (a.aged i) v w below come.0, still_come (a.removed i) v w below come.1);
  removed_aged = λ v i come. come.0;
}

pub one_active_at : (a : Ages) (moves : List (Move ℕ)) → AreAllowed a moves → OneActive (numbers a) IsLater (cluster_after a moves)
one_active_at a moves allowed = one_active (numbers a) (numbers_line a) IsLater later_strict moves allowed

pub one_home_at : (a : Ages) (moves : List (Move ℕ)) → AreAllowed a moves → OneHome (numbers a) IsLater (cluster_after a moves)
one_home_at a moves allowed = always_one_home (numbers a) (numbers_line a) IsLater later_strict moves allowed

pub in_table_at : (a : Ages) (moves : List (Move ℕ)) → AreAllowed a moves → InTable (numbers a) IsLater (cluster_after a moves)
in_table_at a moves allowed = always_in_table (numbers a) (numbers_line a) IsLater later_strict moves allowed

pub one_place_at : (a : Ages) (moves : List (Move ℕ)) → AreAllowed a moves → OnePlace (numbers a) IsLater (cluster_after a moves)
one_place_at a moves allowed = always_one_place (numbers a) (numbers_line a) IsLater later_strict moves allowed
