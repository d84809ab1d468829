-- Pairs in another order say the same.
use Rattle.std.proofs.Common.{◌≡◌, ℕ, ◌+◌, Bool, true, false, cond, if◌then◌else◌, List, [], ◌∷◌, length, map, All, Contains, refl, sym, ◌∙◌, ap, subst, inl, inr, arith}
use Rattle.std.specs.Prelude.{filter}
use Rattle.std.specs.List.{sum_by}
use Rattle.std.specs.List.Sorted.{IsPermutation}
use Rattle.std.specs.Str.{bytes_eq}
use Rattle.std.proofs.lemmas.List.Elements.{All-cons, All-head, All-tail, All-nil}
use Rattle.std.proofs.lemmas.List.Sorted.{All-permutation, sum_by-IsPermutation}
use Rattle.std.proofs.lemmas.List.Sums.{sum_by-cons}
use Rattle.ak_options.specs.declared.command.Command.{Command}
use Rattle.ak_options.specs.declared.command.Command.TheVariants.{Replay, Sweep, Node, Ctl}
use Rattle.ak_options.specs.Options.{Pair, words_of, values, AreNamed, IsOnce, IsNumberOnce, IsNumberAtMostOnce}
use Rattle.ak_options.specs.CommandLine.{AsksFor, Says, command_name, sweep_options, node_options, ctl_options}
use Rattle.ak_options.proofs.CommandLemmas.{same_name, same_rest}

-- words are pairs in one way
pub words_same : (one other : List Pair) → words_of one ≡ words_of other → one ≡ other
words_same [] [] same = refl
words_same [] (p ∷ ps) same = cc
words_same (p ∷ ps) [] same = cc
words_same (p ∷ ps) (q ∷ qs) same =
    let name : p.name ≡ q.name = cc in
    let value : p.value ≡ q.value = cc in
    let rest : words_of ps ≡ words_of qs = cc in
    (λ i. record { name = name i; value = value i } ∷ ps) ∙ ap (λ (rs : List Pair). q ∷ rs) (words_same ps qs rest)

-- how many pairs have a name
count_here : (r : Bool) (p : Pair) (ps : List Pair) → length (map (λ q. q.value) (cond r (p ∷ ps) ps)) ≡ (if r then 1 else 0) + length (map (λ q. q.value) ps)
count_here true p ps = omega arith
count_here false p ps = omega arith

count_values : (name : List ℕ) (pairs : List Pair) → length (values name pairs) ≡ sum_by (λ p. if bytes_eq p.name name then 1 else 0) pairs
count_values name [] = refl
count_values name (p ∷ ps) =
    omega (arith, count_here (bytes_eq p.name name) p (filter (λ q. bytes_eq q.name name) ps), count_values name ps, sum_by-cons (λ (q : Pair). if bytes_eq q.name name then 1 else 0) p ps)

-- each pair that has the name has this value
abbrev HaveValue : List ℕ → List ℕ → Pair → Type 0
HaveValue name value p = bytes_eq p.name name ≡ true → p.value ≡ value

-- the value of a pair that has the name is among the values
split_here : (value : List ℕ) (r : Bool) (p : Pair) (ps : List Pair) → All (λ v. v ≡ value) (map (λ q. q.value) (cond r (p ∷ ps) ps)) →
    (r ≡ true → p.value ≡ value) × All (λ v. v ≡ value) (map (λ q. q.value) ps)
split_here value true p ps all = ((λ h. All-head (λ v. v ≡ value) p.value (map (λ q. q.value) ps) all), All-tail (λ v. v ≡ value) p.value (map (λ q. q.value) ps) all)
split_here value false p ps all = ((λ h. cc), all)

join_here : (value : List ℕ) (r : Bool) (p : Pair) (ps : List Pair) → (r ≡ true → p.value ≡ value) → All (λ v. v ≡ value) (map (λ q. q.value) ps) →
    All (λ v. v ≡ value) (map (λ q. q.value) (cond r (p ∷ ps) ps))
join_here value true p ps here all = All-cons (λ v. v ≡ value) p.value (map (λ q. q.value) ps) (here refl) all
join_here value false p ps here all = all

pairs_have : (name value : List ℕ) (pairs : List Pair) → All (λ v. v ≡ value) (values name pairs) → All (HaveValue name value) pairs
pairs_have name value [] all = All-nil (HaveValue name value)
pairs_have name value (p ∷ ps) all =
    let parts = split_here value (bytes_eq p.name name) p (filter (λ q. bytes_eq q.name name) ps) all in
    All-cons (HaveValue name value) p ps parts.0 (pairs_have name value ps parts.1)

values_have : (name value : List ℕ) (pairs : List Pair) → All (HaveValue name value) pairs → All (λ v. v ≡ value) (values name pairs)
values_have name value [] all = All-nil (λ (v : List ℕ). v ≡ value)
values_have name value (p ∷ ps) all =
    join_here value (bytes_eq p.name name) p (filter (λ q. bytes_eq q.name name) ps) (All-head (HaveValue name value) p ps all)
    (values_have name value ps (All-tail (HaveValue name value) p ps all))

single : (value : List ℕ) (vs : List (List ℕ)) → length vs ≡ 1 → All (λ v. v ≡ value) vs → vs ≡ value ∷ []
single value [] one all = absurd (omega arith)
single value (v ∷ []) one all = ap (λ (w : List ℕ). w ∷ []) (All-head (λ w. w ≡ value) v [] all)
single value (v ∷ w ∷ vs) one all = absurd (omega arith)

none_of : (vs : List (List ℕ)) → length vs ≡ 0 → vs ≡ []
none_of [] none = refl
none_of (v ∷ vs) none = absurd (omega arith)

nobody : (pairs : List Pair) → All (λ (p : Pair). ⊥) pairs → pairs ≡ []
nobody [] none = refl
nobody (p ∷ ps) none = absurd (All-head (λ (q : Pair). ⊥) p ps none)

module _ (pairs others : List Pair) (moved : IsPermutation pairs others) where
  as_many : (name : List ℕ) → length (values name others) ≡ length (values name pairs)
  as_many name = count_values name others ∙ sum_by-IsPermutation (λ (p : Pair). if bytes_eq p.name name then 1 else 0) pairs others moved ∙ sym (count_values name pairs)

  once : (name value : List ℕ) → IsOnce name pairs value → IsOnce name others value
  once name value is =
      let all : All (λ v. v ≡ value) (values name pairs) = subst (λ (vs : List (List ℕ)). All (λ v. v ≡ value) vs) (sym is) (All-cons (λ v. v ≡ value) value [] refl (All-nil (λ (v : List ℕ). v ≡ value))) in
      single value (values name others) (as_many name ∙ ap (length {A = List ℕ}) is)
      (values_have name value others (All-permutation (HaveValue name value) pairs others moved (pairs_have name value pairs all)))

  number_once : (name : List ℕ) (least most n : ℕ) → IsNumberOnce name least most pairs n → IsNumberOnce name least most others n
  number_once name least most n is = (is.0, once name is.0 is.1, is.2)

  number_at_most_once : (name : List ℕ) (least most default n : ℕ) → IsNumberAtMostOnce name least most default pairs n → IsNumberAtMostOnce name least most default others n
  number_at_most_once name least most default n (inl is) = inl (number_once name least most n is)
  number_at_most_once name least most default n (inr none) = inr (none_of (values name others) (as_many name ∙ ap (length {A = List ℕ}) none.0), none.1)

  named : (names : List (List ℕ)) → AreNamed names pairs → AreNamed names others
  named names are = All-permutation (λ (p : Pair). Contains names p.name) pairs others moved are

  says_so : (command : Command) → Says pairs command → Says others command
  says_so Replay is = nobody others (All-permutation (λ (p : Pair). ⊥) pairs others moved (subst (λ (ps : List Pair). All (λ (p : Pair). ⊥) ps) (sym is) (All-nil (λ (p : Pair). ⊥))))
  says_so (Sweep first count events workers) is = record {
    named = named sweep_options is.named;
    first_once = number_once _ _ _ first is.first_once;
    count_once = number_once _ _ _ count is.count_once;
    events_once = number_once _ _ _ events is.events_once;
    workers_at_most_once = number_at_most_once _ _ _ _ workers is.workers_at_most_once;
  }
  says_so (Node config ticks) is = record {
    named = named node_options is.named;
    config_once = once _ config is.config_once;
    ticks_once = number_once _ _ _ ticks is.ticks_once;
  }
  says_so (Ctl to say) is = record {
    named = named ctl_options is.named;
    address = is.address;
    to_once = once _ is.address is.to_once;
    to_spelled = is.to_spelled;
    text = is.text;
    say_once = once _ is.text is.say_once;
    say_spelled = is.say_spelled;
  }

pub any_order : (name : List ℕ) (pairs others : List Pair) (command : Command) → IsPermutation pairs others → AsksFor (name ∷ words_of pairs) command → AsksFor (name ∷ words_of others) command
any_order name pairs others command moved asks =
    let is : command_name command ≡ name = sym (same_name name (command_name command) (words_of pairs) (words_of asks.pairs) asks.whole) in
    let are : asks.pairs ≡ pairs = words_same asks.pairs pairs (sym (same_rest name (command_name command) (words_of pairs) (words_of asks.pairs) asks.whole)) in
    record {
      pairs = others;
      whole = ap (λ (n : List ℕ). n ∷ words_of others) (sym is);
      says = says_so pairs others moved command (subst (λ (ps : List Pair). Says ps command) are asks.says);
    }
