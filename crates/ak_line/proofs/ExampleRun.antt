-- The run of one process is allowed, so the guards can be met.
use Rattle.std.proofs.Common.{◌≡◌, ℕ, ◌≤◌, ◌==◌, Bool, true, false, if◌then◌else◌, ◌⊎◌, inl, inr, List, [], ◌∷◌, ◌++◌, Some, None, is_some, Contains, refl, sym, ap, ◌∙◌, subst, arith, true≢false}
use Rattle.std.proofs.lemmas.Option.{same_Some}
use Rattle.ak_promise.specs.Ballot.{BallotModel}
use Rattle.ak_line.specs.Name.{Name, is_name}
use Rattle.ak_line.specs.Shards.{Mark, Placement, Learns, unmarked, own_placement, yielded}
use Rattle.ak_line.specs.Moves.{Node, Activation, Cluster, Move, blank, AllAllowed, after, after_all}
use Rattle.ak_line.specs.BallotOrder.{IsLater}
use Rattle.ak_line.specs.Numbers.{HasCome, numbers, AreAllowed, cluster_after}
use Rattle.ak_line.specs.Example.{me, alone, moves, other, both, first_ballot, second_ballot, granted, granted_next, reported, own_table, rise, hand_off, hand_over, farewell, passing}
use Rattle.ak_line.proofs.Names.{name_tells}
use Rattle.ak_address.proofs.Elements.{contains_first, contains_nothing, first_or_rest}
use Rattle.ak_address.proofs.BoolLemmas.{none_there}

only_me : (z : Name) (v : ℕ) → HasCome (if is_name z me then Some 1 else None) v → Contains (me ∷ []) z
only_me z v = by_name (name_tells z me)
  where
    by_name : ((is_name z me ≡ true) × (z ≡ me)) ⊎ ((is_name z me ≡ false) × (z ≡ me → ⊥)) → HasCome (if is_name z me then Some 1 else None) v → Contains (me ∷ []) z
    by_name (inl is) come = (0, omega arith, sym is.1)
    by_name (inr other) come = absurd (subst (λ b. HasCome (if b then Some 1 else None) v) other.0 come)

not_at_first : (z : Name) → HasCome (if is_name z me then Some 1 else None) 0 → ⊥
not_at_first z = by_test (is_name z me)
  where
    by_test : (b : Bool) → HasCome (if b then Some 1 else None) 0 → ⊥
    by_test true come = omega (arith, come)
    by_test false come = come

pub is_allowed : AreAllowed alone moves
is_allowed = (
  (refl, λ i. (not_at_first me, λ a act. absurd (true≢false (sym (ap is_some act))))),
  (
    (refl, omega arith, omega arith, λ gone. gone.1),
    (
      (refl, refl, (omega arith, omega arith, λ gone. gone.1), refl, (λ c is. absurd (none_there c is)), λ c is. absurd (none_there c is)),
      (
        (refl, refl, (omega arith, omega arith, λ gone. gone.1), omega arith, λ z aged. inl (only_me z 1 aged)),
        (
          (refl, refl, refl, omega arith, contains_first me []),
          (
            (refl, refl, refl),
            (
              (refl, refl, (me, (0, omega arith, refl)), refl, omega arith),
              (
                (refl, refl, refl),
                (
                  (refl, refl, (me, (0, omega arith, refl))),
                  (
                    (refl, refl, omega arith, λ hosts. absurd (true≢false (sym hosts))),
                    (
                      (refl, refl, refl, inr (0, omega arith, refl)),
                      (
                        (refl, refl, refl, omega arith, contains_first me []),
                        (
                          (refl, refl, refl),
                          (
                            (refl, refl, (me, (0, omega arith, refl)), refl, omega arith),
                            tt,
                          ),
                        ),
                      ),
                    ),
                  ),
                ),
              ),
            ),
          ),
        ),
      ),
    ),
  ),
)

-- ---- two processes
one_of_both : (z : Name) (v : ℕ) → HasCome (both.aged z) v → (z ≡ me) ⊎ (z ≡ other)
one_of_both z v come = elim (name_tells z me) [
  | inl is ↦ inl is.1
  | inr apart ↦ elim (name_tells z other) [
    | inl is ↦ inr is.1
    | inr neither ↦ absurd (subst (λ b. HasCome (if b then Some 1 else None) v) neither.0 (subst (λ b. HasCome (if b then Some 1 else (if is_name z other then Some 1 else None)) v) apart.0 come))
  ]
]

first_granted : (z : Name) → HasCome (both.aged z) 1 → Contains granted.granted z
first_granted z come = elim (one_of_both z 1 come) [ inl is ↦ (1, omega arith, sym is) | inr is ↦ (0, omega arith, sym is) ]

then_granted : (z : Name) → HasCome (both.aged z) 1 → Contains granted_next.granted z
then_granted z come = elim (one_of_both z 1 come) [ inl is ↦ (0, omega arith, sym is) | inr is ↦ (1, omega arith, sym is) ]

-- the other is new where the first alone has started
still_new : (i : Name) → let n : Node ℕ = (cluster_after both (Move.Start me ∷ [])).node i in
    (HasCome (Some 1) n.settled → ⊥) × ((a : Activation ℕ) → n.activation ≡ Some a → HasCome (Some 1) a.first → ⊥)
still_new i = by_test (is_name i me)
  where
    by_test : (b : Bool) → let n : Node ℕ = if b then record (blank (numbers both) IsLater) { runs = true } else blank (numbers both) IsLater in
        (HasCome (Some 1) n.settled → ⊥) × ((a : Activation ℕ) → n.activation ≡ Some a → HasCome (Some 1) a.first → ⊥)
    by_test true = (λ come. omega (arith, come), λ a act. absurd (true≢false (sym (ap is_some act))))
    by_test false = (λ come. omega (arith, come), λ a act. absurd (true≢false (sym (ap is_some act))))

-- a report of a shard that is not hosted teaches nothing to a table that has its number
nothing_new : (asks : Type 0) (z : Name) (m : Mark) (e : Placement) → m.hosts ≡ false → m.number ≤ e.last → Learns asks z m e e
nothing_new asks z m e idle covers = record { keeps = omega arith; covers = covers; home = inl (refl, λ hosts. absurd (true≢false (sym hosts ∙ idle))) }

learnt : (asks : Type 0) (s : ℕ) → Learns asks me (reported s) (own_table s) (own_table s)
learnt asks s = by_test (s == 5)
  where
    by_test : (b : Bool) → let m : Mark = if b then yielded 1 (record { number = 1; hosts = true }) else (if b then record { number = 1; hosts = true } else unmarked s) in
        let e : Placement = own_placement other (if b then record { number = 2; hosts = true } else unmarked s) in Learns asks me m e e
    by_test true = nothing_new asks me _ _ refl (omega arith)
    by_test false = nothing_new asks me _ _ refl (omega arith)

apart : me ≡ other → ⊥
apart is = let ports : 0 ≡ 1 = ap (λ (n : Name). n.address.port) is in omega (arith, ports)

above_first : (c : BallotModel) → Some first_ballot ≡ Some c → IsLater second_ballot c
above_first c is = subst (λ b. IsLater second_ballot b) (same_Some first_ballot c is) refl

not_me : Contains (me ∷ []) other → ⊥
not_me c = elim (first_or_rest me other [] c) [ inl is ↦ apart (sym is) | inr none ↦ contains_nothing other none ]

not_other : Contains (other ∷ []) me → ⊥
not_other c = elim (first_or_rest other me [] c) [ inl is ↦ apart is | inr none ↦ contains_nothing me none ]

rise_allowed : AllAllowed (numbers both) IsLater (cluster_after both []) rise
rise_allowed = (
  (refl, λ i. (λ come. omega (arith, come), λ a act. absurd (true≢false (sym (ap is_some act))))),
  (
    (refl, still_new),
    (
      (refl, omega arith, omega arith, λ gone. omega (arith, gone.1)),
      (
        (refl, omega arith, omega arith, λ gone. gone.1),
        (
          (refl, refl, (omega arith, omega arith, λ gone. omega (arith, gone.1)), refl, (λ c is. absurd (none_there c is)), λ c is. absurd (none_there c is)),
          (
            (refl, refl),
            (
              (refl, (0, omega arith, refl), (λ c is. absurd (none_there c is)), λ c is. absurd (none_there c is)),
              (
                (refl, refl, refl),
                (
                  (refl, refl, (0, omega arith, refl), not_me, (λ gone. gone.1), λ s. nothing_new _ other _ _ refl (omega arith)),
                  (
                    (refl, refl, (omega arith, omega arith, λ gone. omega (arith, gone.1)), omega arith, λ z aged. inl (first_granted z aged)),
                    tt,
                  ),
                ),
              ),
            ),
          ),
        ),
      ),
    ),
  ),
)

hand_off_allowed : AllAllowed (numbers both) IsLater (cluster_after both rise) hand_off
hand_off_allowed = (
  (refl, refl, refl, omega arith, first_granted me (omega arith)),
  (
    (refl, refl, refl),
    (
      (refl, refl, (me, (0, omega arith, refl)), refl, omega arith),
      (
        (refl, refl, refl),
        (
          (refl, refl, (me, (0, omega arith, refl))),
          (
            (refl, refl, omega arith, λ hosts. absurd (true≢false (sym hosts))),
            (
              (refl, refl, refl, inr (0, omega arith, refl)),
              (
                (refl, refl, refl, omega arith, first_granted other (omega arith)),
                (
                  (refl, refl, refl),
                  (
                    (refl, refl, (me, (0, omega arith, refl)), refl, omega arith),
                    tt,
                  ),
                ),
              ),
            ),
          ),
        ),
      ),
    ),
  ),
)

hand_over_allowed : AllAllowed (numbers both) IsLater (cluster_after both (rise ++ hand_off)) hand_over
hand_over_allowed = (
  (refl, inr (refl, refl)),
  (
    (refl, inl refl),
    (
      (refl, refl, (_, (0, omega arith, refl), refl), λ t live. absurd live),
      (
        (refl, me, (0, omega arith, refl)),
        (
          (refl, refl, (other, inl (0, omega arith, refl))),
          (
            (refl, refl, (omega arith, omega arith, λ gone. gone.1), refl, above_first, λ c is. inl refl),
            (
              (refl, refl),
              (
                (refl, (0, omega arith, refl), above_first, λ c is. inl refl),
                (
                  (refl, refl, (0, omega arith, refl), not_other, (λ gone. omega (arith, gone.1)), λ s. learnt _ s),
                  (
                    (refl, refl, (omega arith, omega arith, λ gone. gone.1), omega arith, λ z aged. inl (then_granted z aged)),
                    tt,
                  ),
                ),
              ),
            ),
          ),
        ),
      ),
    ),
  ),
)

farewell_allowed : AllAllowed (numbers both) IsLater (cluster_after both (rise ++ hand_off ++ hand_over)) farewell
farewell_allowed = (
  refl,
  (
    (refl, omega arith, omega arith, λ gone. gone.1),
    (
      (refl, omega arith, (omega arith, omega arith), refl),
      tt,
    ),
  ),
)

allowed_append : (w : Cluster ℕ) (ms ks : List (Move ℕ)) → AllAllowed (numbers both) IsLater w ms
    → AllAllowed (numbers both) IsLater (after_all (numbers both) IsLater w ms) ks → AllAllowed (numbers both) IsLater w (ms ++ ks)
allowed_append w [] ks first second = second
allowed_append w (m ∷ ms) ks first second = (first.0, allowed_append (after (numbers both) IsLater w m) ms ks first.1 second)

pub passing_allowed : AreAllowed both passing
passing_allowed =
    allowed_append (cluster_after both []) rise (hand_off ++ hand_over ++ farewell) rise_allowed
    (allowed_append (cluster_after both rise) hand_off (hand_over ++ farewell) hand_off_allowed
    (allowed_append (cluster_after both (rise ++ hand_off)) hand_over farewell hand_over_allowed farewell_allowed))
