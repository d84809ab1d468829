-- Two standings, and two rows of one observer, come to one in any order and grouping.
use Rattle.std.proofs.Common.{◌≡◌, ℕ, zero, suc, max, Bool, true, false, cond, ltb, ◌||◌, refl, sym, ap, ◌∙◌, arith}
use Rattle.std.proofs.lemmas.Bool.{ltb-true, ltb-false, lt-ltb, le-ltb}
use Rattle.std.proofs.lemmas.Bool.Decides.{nat_tests}
use Rattle.ak_address.proofs.BoolLemmas.{or_turned}
use Rattle.ak_member.specs.declared.status.Status.{Status}
use Rattle.ak_member.specs.declared.status.Status.TheVariants.{Joining, WeaklyUp, Up, Leaving, Exiting, Down}
use Rattle.ak_member.specs.declared.standing.Standing.{Standing}
use Rattle.ak_member.specs.declared.standing.Standing.TheVariants.{Member, Buried}
use Rattle.ak_member.specs.Standing.{rank, greater_status, older_number, merged_standing}
use Rattle.ak_member.specs.View.{Row, later_row}

-- ---- statuses
abbrev of_rank : ℕ → Status
of_rank zero = Joining
of_rank (suc zero) = Joining
of_rank (suc (suc zero)) = WeaklyUp
of_rank (suc (suc (suc zero))) = Up
of_rank (suc (suc (suc (suc zero)))) = Leaving
of_rank (suc (suc (suc (suc (suc zero))))) = Exiting
of_rank (suc (suc (suc (suc (suc (suc n)))))) = Down

of_its_rank : (x : Status) → of_rank (rank x) ≡ x
of_its_rank Joining = refl
of_its_rank WeaklyUp = refl
of_its_rank Up = refl
of_its_rank Leaving = refl
of_its_rank Exiting = refl
of_its_rank Down = refl

-- two statuses of one rank are one
pub same_rank : (x y : Status) → rank x ≡ rank y → x ≡ y
same_rank x y same = sym (of_its_rank x) ∙ ap of_rank same ∙ of_its_rank y

greater_of : (b : Bool) (x y : Status) → ltb (rank x) (rank y) ≡ b → rank (cond b y x) ≡ max (rank x) (rank y)
greater_of true x y is = let less = ltb-true (rank x) (rank y) is in omega arith
greater_of false x y is = let less = ltb-false (rank x) (rank y) is in omega arith

pub rank-greater_status : (x y : Status) → rank (greater_status x y) ≡ max (rank x) (rank y)
rank-greater_status x y = greater_of _ x y refl

status_commutative : (x y : Status) → greater_status x y ≡ greater_status y x
status_commutative x y =
    let one = rank-greater_status x y in
    let other = rank-greater_status y x in
    same_rank _ _ (omega arith)

status_associative : (x y z : Status) → greater_status (greater_status x y) z ≡ greater_status x (greater_status y z)
status_associative x y z =
    let left = rank-greater_status x y in
    let right = rank-greater_status y z in
    let one = rank-greater_status (greater_status x y) z in
    let other = rank-greater_status x (greater_status y z) in
    same_rank _ _ (omega arith)

status_idempotent : (x : Status) → greater_status x x ≡ x
status_idempotent x = let one = rank-greater_status x x in same_rank _ _ (omega arith)

-- ---- numbers
number_commutative : (m n : ℕ) → older_number m n ≡ older_number n m
number_commutative m n = grind (arith, nat_tests)

number_associative : (l m n : ℕ) → older_number (older_number l m) n ≡ older_number l (older_number m n)
number_associative l m n = grind (arith, nat_tests)

number_idempotent : (n : ℕ) → older_number n n ≡ n
number_idempotent n = grind (arith, nat_tests)

-- ---- standings
or_associative : (a b c : Bool) → ((a || b) || c) ≡ (a || (b || c))
or_associative true b c = refl
or_associative false b c = refl

or_idempotent : (a : Bool) → (a || a) ≡ a
or_idempotent true = refl
or_idempotent false = refl

pub standing_commutative : (x y : Standing) → merged_standing x y ≡ merged_standing y x
standing_commutative (Member status number) (Member other other_number) = λ i. Member (status_commutative status other i) (number_commutative number other_number i)
standing_commutative (Member status number) (Buried confirmed) = refl
standing_commutative (Buried confirmed) (Member status number) = refl
standing_commutative (Buried confirmed) (Buried other) = ap Buried (or_turned confirmed other)

pub standing_associative : (x y z : Standing) → merged_standing (merged_standing x y) z ≡ merged_standing x (merged_standing y z)
standing_associative (Member a l) (Member b m) (Member c n) = λ i. Member (status_associative a b c i) (number_associative l m n i)
standing_associative (Member a l) (Member b m) (Buried c) = refl
standing_associative (Member a l) (Buried b) (Member c n) = refl
standing_associative (Member a l) (Buried b) (Buried c) = refl
standing_associative (Buried a) (Member b m) (Member c n) = refl
standing_associative (Buried a) (Member b m) (Buried c) = refl
standing_associative (Buried a) (Buried b) (Member c n) = refl
standing_associative (Buried a) (Buried b) (Buried c) = ap Buried (or_associative a b c)

pub standing_idempotent : (x : Standing) → merged_standing x x ≡ x
standing_idempotent (Member status number) = λ i. Member (status_idempotent status i) (number_idempotent number i)
standing_idempotent (Buried confirmed) = ap Buried (or_idempotent confirmed)

-- ---- rows
later_of : (b : Bool) (r q : Row) → ltb r.number q.number ≡ b → ((r.number ≡ q.number) → r ≡ q) → cond b q r ≡ later_row q r
later_of true r q is agree = let less = ltb-true r.number q.number is in ap (λ b. cond b r q) (sym (le-ltb q.number r.number (omega arith)))
later_of false r q is agree =
    elim (ltb q.number r.number) as (λ b. ltb q.number r.number ≡ b → r ≡ cond b r q) [
      | true ↦ λ less. refl
      | false ↦ λ less. let no = ltb-false r.number q.number is in let none = ltb-false q.number r.number less in agree (omega arith)
    ] refl

-- rows of one number that are one row
pub row_commutative : (r q : Row) → (r.number ≡ q.number → r ≡ q) → later_row r q ≡ later_row q r
row_commutative r q agree = later_of _ r q refl agree

pub row_associative : (p q r : Row) → later_row (later_row p q) r ≡ later_row p (later_row q r)
row_associative p q r =
    elim (ltb p.number q.number) as (λ b. ltb p.number q.number ≡ b → later_row (cond b q p) r ≡ later_row p (later_row q r)) [
      | true ↦ λ first.
          elim (ltb q.number r.number) as (λ b. ltb q.number r.number ≡ b → cond b r q ≡ later_row p (cond b r q)) [
            | true ↦ λ second. let l = ltb-true _ _ first in let m = ltb-true _ _ second in sym (ap (λ b. cond b r p) (lt-ltb p.number r.number (omega arith)))
            | false ↦ λ second. sym (ap (λ b. cond b q p) first)
          ] refl
      | false ↦ λ first.
          elim (ltb q.number r.number) as (λ b. ltb q.number r.number ≡ b → later_row p r ≡ later_row p (cond b r q)) [
            | true ↦ λ second. refl
            | false ↦ λ second. let l = ltb-false _ _ first in let m = ltb-false _ _ second in ap (λ b. cond b r p) (le-ltb p.number r.number (omega arith)) ∙ sym (ap (λ b. cond b q p) first)
          ] refl
    ] refl

pub row_idempotent : (r : Row) → later_row r r ≡ r
row_idempotent r = ap (λ b. cond b r r) (le-ltb r.number r.number (omega arith))
