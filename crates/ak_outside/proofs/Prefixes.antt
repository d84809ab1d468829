-- What several writes in a row do to the bytes that a sink took. `prefixes` serves callers that write one text after another.
use Rattle.std.proofs.Common.{ℕ, ◌+◌, ◌-◌, List, ◌++◌, length, take, drop, Option, subst, sym, ap, ◌∙◌, arith, length-append, append_assoc}
use Rattle.std.proofs.lemmas.List.{take_rest, take-append-le}
use Rattle.std.proofs.Math.Seq.{take-add, take-append-add}
use Rattle.std.specs.Io.KnownBytes.{Appends}
use Rattle.std.proofs.KnownBytes.{Appends-trans}
use Rattle.ak_outside.specs.Outside.{AppendsPrefix}

-- the next piece joins the prefix that was written before
pub Appends-pieces : (a b c : Option (List ℕ)) (n m : ℕ) (bs : List ℕ) → Appends a b (take n bs)
    → Appends b c (take m (take (length bs - n) (drop n bs))) → Appends a c (take (n + m) bs)
Appends-pieces a b c n m bs p q =
    subst (Appends a c) (ap (λ rest. take n bs ++ take m rest) (take_rest bs n) ∙ sym (take-add n m bs)) (Appends-trans a b c _ _ p q)

-- a prefix of a text is a prefix of a longer one
pub AppendsPrefix-more : (a b : Option (List ℕ)) (xs ys : List ℕ) → AppendsPrefix a b xs → AppendsPrefix a b (xs ++ ys)
AppendsPrefix-more a b xs ys f = record {
  count = f.count;
  within = omega (arith, length-append xs ys);
  prefix = subst (Appends a b) (sym (take-append-le f.count xs ys f.within)) f.prefix;
}

-- a whole text, and then a prefix of the next
pub AppendsPrefix-after : (a b c : Option (List ℕ)) (xs ys : List ℕ) → Appends a b xs → AppendsPrefix b c ys → AppendsPrefix a c (xs ++ ys)
AppendsPrefix-after a b c xs ys p f = record {
  count = length xs + f.count;
  within = omega (arith, length-append xs ys);
  prefix = subst (Appends a c) (sym (take-append-add xs ys f.count)) (Appends-trans a b c xs (take f.count ys) p f.prefix);
}

-- a text is cut into pieces from the left
pub AppendsPrefix-regroup : (a b : Option (List ℕ)) (xs ys zs : List ℕ) → AppendsPrefix a b (xs ++ (ys ++ zs)) → AppendsPrefix a b ((xs ++ ys) ++ zs)
AppendsPrefix-regroup a b xs ys zs f = subst (AppendsPrefix a b) (sym (append_assoc xs ys zs)) f

pub ruleset prefixes = (AppendsPrefix-more, AppendsPrefix-after, AppendsPrefix-regroup)
