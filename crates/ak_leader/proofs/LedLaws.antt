-- What each effect of the leader, and of the founding, comes from; and what the leader and the founding owe.
use Rattle.std.proofs.Common.{◌≡◌, ℕ, zero, suc, ◌+◌, ◌<◌, ◌≤◌, Bool, true, false, if◌then◌else◌, IsTrue, ◌⊎◌, inl, inr, List, [], ◌∷◌, ◌++◌, length, Some, is_some, slice_get, Contains, refl, sym, ap, ◌∙◌, subst, arith, true≢false}
use Rattle.std.proofs.lemmas.Bool.{ltb-true, lt-ltb}
use Rattle.std.proofs.lemmas.Option.{none-some, same_Some}
use Rattle.std.specs.FinMap as map
use Rattle.ak_address.specs.Unique.{UniqueModel}
use Rattle.ak_address.specs.Uniques.{UniqueSet, has}
use Rattle.ak_clock.specs.declared.version.TheConstants.{BOUND}
use Rattle.ak_member.specs.declared.effect.Effect.{Effect}
use Rattle.ak_member.specs.declared.effect.Effect.TheVariants.{Joined, Rise, Removed, Observed}
use Rattle.ak_member.specs.declared.status.Status.{Status}
use Rattle.ak_member.specs.declared.status.Status.TheVariants.{Joining, WeaklyUp, Up, Leaving, Exiting, Down}
use Rattle.ak_member.specs.Standing.{Standings, member_of, is_member, members_of, is_joining, is_waiting}
use Rattle.ak_member.specs.Age.{counts}
use Rattle.ak_member.specs.View.{View}
use Rattle.ak_address.proofs.Elements.{contains_first, contains_rest, first_or_rest, contains_nothing, contains_either, contains_left, contains_right}
use Rattle.ak_member.proofs.MembersLaws.{members_have, have_members}
use Rattle.ak_reach.specs.Unreachable.{unreachable_members, IsUnreachable}
use Rattle.ak_reach.proofs.UnreachableLaws.{unreachable_means}
use Rattle.ak_leader.specs.Leader.{leader, greatest_number, has_next, number_after, led, all_led, leaders_effects, all_founded, founding_effects}
use Rattle.ak_leader.specs.Led.{IsMemberWith, IsWaiting, IsAbout, LedTo}
use Rattle.ak_leader.specs.Led.LedTo.{rises, exits, confirms, removes}
use Rattle.ak_leader.proofs.LeaderLaws.{leader_is}

abbrev MemberPair : Type 0
MemberPair = UniqueModel × (Status × ℕ)

-- who waits does not count
pub waiting_not_counted : (status : Status) → is_waiting status ≡ true → counts status ≡ false
waiting_not_counted Joining waits = refl
waiting_not_counted WeaklyUp waits = refl
waiting_not_counted Up waits = absurd (true≢false (sym waits))
waiting_not_counted Leaving waits = absurd (true≢false (sym waits))
waiting_not_counted Exiting waits = refl
waiting_not_counted Down waits = refl

-- ---- what an effect comes from
module _ (v : View) (confirmed : UniqueSet) where
  alone : (who : UniqueModel) (status : Status) (x y : Effect) → LedTo v confirmed who status y → Contains (y ∷ []) x → LedTo v confirmed who status x
  alone who status x y is there = elim (first_or_rest y x [] there) [ inl same ↦ subst (LedTo v confirmed who status) (sym same) is | inr none ↦ absurd (contains_nothing x none) ]

  led_waiting : (who : UniqueModel) (status : Status) → is_waiting status ≡ true → (number : ℕ) (x : Effect) (b : Bool) → has_next number ≡ b → Contains (if b then Rise who Up (number + 1) ∷ [] else []) x → LedTo v confirmed who status x
  led_waiting who status waits number x true is there = alone who status x _ (rises (number + 1) waits (omega arith) (let below = ltb-true number BOUND is in omega arith)) there
  led_waiting who status waits number x false is there = absurd (contains_nothing x there)

  led_exiting : (who : UniqueModel) (x : Effect) (b : Bool) → has confirmed who ≡ b → Contains (if b then Removed who true ∷ [] else []) x → LedTo v confirmed who Exiting x
  led_exiting who x true is there = alone who Exiting x _ (confirms (inl refl) is) there
  led_exiting who x false is there = absurd (contains_nothing x there)

  led_down : (who : UniqueModel) (x : Effect) (b c : Bool) → has confirmed who ≡ b → has (unreachable_members v) who ≡ c
      → Contains (if b then Removed who true ∷ [] else (if c then Removed who false ∷ [] else [])) x → LedTo v confirmed who Down x
  led_down who x true c is lost there = alone who Down x _ (confirms (inr refl) is) there
  led_down who x false true is lost there = alone who Down x _ (removes refl is ((unreachable_means v who).0 lost)) there
  led_down who x false false is lost there = absurd (contains_nothing x there)

  one_led : (number : ℕ) (m : MemberPair) (x : Effect) → Contains (led (unreachable_members v) confirmed number m) x → LedTo v confirmed m.0 m.1.0 x
  one_led number (who, (Joining, up)) x there = led_waiting who Joining refl number x (has_next number) refl there
  one_led number (who, (WeaklyUp, up)) x there = led_waiting who WeaklyUp refl number x (has_next number) refl there
  one_led number (who, (Up, up)) x there = absurd (contains_nothing x there)
  one_led number (who, (Leaving, up)) x there = alone who Leaving x _ (exits refl) there
  one_led number (who, (Exiting, up)) x there = led_exiting who x (has confirmed who) refl there
  one_led number (who, (Down, up)) x there = led_down who x (has confirmed who) (has (unreachable_members v) who) refl refl there

  pub each_led : (number : ℕ) (ms : List MemberPair) (x : Effect) → Contains (all_led (unreachable_members v) confirmed number ms) x → (m : MemberPair) × Contains ms m × LedTo v confirmed m.0 m.1.0 x
  each_led number [] x there = absurd (contains_nothing x there)
  each_led number (m ∷ ms) x there =
      elim (contains_either (led (unreachable_members v) confirmed number m) (all_led (unreachable_members v) confirmed (number_after number m.1.0) ms) x there) [
        | inl here ↦ (m, contains_first m ms, one_led number m x here)
        | inr later ↦ let d = each_led (number_after number m.1.0) ms x later in (d.0, contains_rest m d.0 ms d.1, d.2)
      ]

  pub led_from : (x : Effect) → Contains (leaders_effects v confirmed) x → (who : UniqueModel) × (status : Status) × IsMemberWith v.standings who status × LedTo v confirmed who status x
  led_from x there =
      let d = each_led (greatest_number (members_of v.standings)) (members_of v.standings) x there in
      (d.0.0, d.0.1.0, (d.0.1.1, members_have v.standings d.0 d.1), d.2)

  -- ---- in words
  about : (who : UniqueModel) (status : Status) (x : Effect) → LedTo v confirmed who status x → IsAbout x who
  about who status x is = elim is as (λ y h. IsAbout y who) [
    | rises number waits least most ↦ refl
    | exits leaving ↦ refl
    | confirms out said ↦ refl
    | removes down silent lost ↦ refl
  ]

  pub led_members : (x : Effect) → Contains (leaders_effects v confirmed) x → (who : UniqueModel) × IsAbout x who × IsTrue (is_member v.standings who)
  led_members x there = let d = led_from x there in (d.0, about d.0 d.1 x d.3, ap is_some d.2.1)

  -- the cause of a rise, and of a removal
  abbrev CauseOfRise : Effect → Type 0
  CauseOfRise (Joined who) = Unit {0}
  CauseOfRise (Rise who status number) = ((status ≡ Up) × IsWaiting v.standings who) ⊎ ((status ≡ Exiting) × IsMemberWith v.standings who Leaving)
  CauseOfRise (Removed who b) = (b ≡ true → IsTrue (has confirmed who)) × ((b ≡ false) → IsMemberWith v.standings who Down × IsUnreachable v who)
  CauseOfRise (Observed subjects) = Unit {0}

  with_status : (who : UniqueModel) (status other : Status) → IsMemberWith v.standings who status → status ≡ other → IsMemberWith v.standings who other
  with_status who status other is same = subst (IsMemberWith v.standings who) same is

  cause : (who : UniqueModel) (status : Status) (x : Effect) → IsMemberWith v.standings who status → LedTo v confirmed who status x → CauseOfRise x
  cause who status x member is = elim is as (λ y h. CauseOfRise y) [
    | rises number waits least most ↦ inl (refl, (status, member, waits))
    | exits leaving ↦ inr (refl, with_status who status Leaving member leaving)
    | confirms out said ↦ (λ _. said, λ never. absurd (true≢false never))
    | removes down silent lost ↦ (λ never. absurd (true≢false (sym never)), λ _. (with_status who status Down member down, lost))
  ]

  causes : (x : Effect) → Contains (leaders_effects v confirmed) x → CauseOfRise x
  causes x there = let d = led_from x there in cause d.0 d.1 x d.2 d.3

  pub led_up : (who : UniqueModel) (number : ℕ) → Contains (leaders_effects v confirmed) (Rise who Up number) → IsWaiting v.standings who
  led_up who number there = elim (causes (Rise who Up number) there) [ inl up ↦ up.1 | inr exiting ↦ absurd (up_exits exiting.0) ]
    where
      up_exits : Up ≡ Exiting → ⊥
      up_exits never = cc

  pub led_leaving : (who : UniqueModel) (number : ℕ) → Contains (leaders_effects v confirmed) (Rise who Leaving number) → ⊥
  led_leaving who number there = elim (causes (Rise who Leaving number) there) [ inl up ↦ leaving_up up.0 | inr exiting ↦ leaving_exits exiting.0 ]
    where
      leaving_up : Leaving ≡ Up → ⊥
      leaving_up never = cc

      leaving_exits : Leaving ≡ Exiting → ⊥
      leaving_exits never = cc

  pub led_confirmed : (who : UniqueModel) → Contains (leaders_effects v confirmed) (Removed who true) → IsTrue (has confirmed who)
  led_confirmed who there = (causes (Removed who true) there).0 refl

  pub led_unconfirmed : (who : UniqueModel) → Contains (leaders_effects v confirmed) (Removed who false) → IsMemberWith v.standings who Down × IsUnreachable v who
  led_unconfirmed who there = (causes (Removed who false) there).1 refl

  -- ---- the leader itself
  pub led_leader : (me : UniqueModel) (x : Effect) → leader v ≡ Some me → Contains (leaders_effects v confirmed) x → IsAbout x me → (x ≡ Rise me Exiting 0) × IsMemberWith v.standings me Leaving
  led_leader me x leads there mine =
      let d = led_from x there in
      let may = (leader_is v (Some me) (sym leads)).0 in
      let counted = may.1 in
      only d.0 d.1 x d.2 (λ is. counting (counted.0, may.0) (d.1, d.2.0) (sym counted.1 ∙ ap (λ u. member_of (map.get v.standings u)) (sym is) ∙ d.2.1) counted.2) d.3 mine
    where
      counting : (m n : Status × ℕ) → Some m ≡ Some n → counts m.0 ≡ true → counts n.0 ≡ true
      counting m n same is = ap (λ (r : Status × ℕ). counts r.0) (sym (same_Some m n same)) ∙ is

      only : (who : UniqueModel) (status : Status) (x : Effect) → IsMemberWith v.standings who status → (who ≡ me → counts status ≡ true) → LedTo v confirmed who status x → IsAbout x me
          → (x ≡ Rise me Exiting 0) × IsMemberWith v.standings me Leaving
      only who status x member counted is mine = (elim is as (λ y h. IsAbout y me → (y ≡ Rise me Exiting 0) × IsMemberWith v.standings me Leaving) [
        | rises number waits least most ↦ λ same. absurd (true≢false (sym (counted same) ∙ waiting_not_counted status waits))
        | exits leaving ↦ λ same. (ap (λ u. Rise u Exiting 0) same, subst (λ u. IsMemberWith v.standings u Leaving) same (with_status who status Leaving member leaving))
        | confirms out said ↦ λ same. absurd (elim out [ inl exiting ↦ true≢false (sym (counted same) ∙ ap counts exiting) | inr down ↦ true≢false (sym (counted same) ∙ ap counts down) ])
        | removes down silent lost ↦ λ same. absurd (true≢false (sym (counted same) ∙ ap counts down))
      ]) mine

  -- ---- what is owed
  owed : (x : Effect) (m : MemberPair) → ((number : ℕ) → Contains (led (unreachable_members v) confirmed number m) x) → (ms : List MemberPair) → Contains ms m → (number : ℕ) → Contains (all_led (unreachable_members v) confirmed number ms) x
  owed x m each [] there number = absurd (contains_nothing m there)
  owed x m each (n ∷ ms) there number =
      let here = led (unreachable_members v) confirmed number n in
      let rest = all_led (unreachable_members v) confirmed (number_after number n.1.0) ms in
      elim (first_or_rest n m ms there) [
        | inl same ↦ contains_left here rest x (subst (λ (r : MemberPair). Contains (led (unreachable_members v) confirmed number r) x) same (each number))
        | inr later ↦ contains_right here rest x (owed x m each ms later (number_after number n.1.0))
      ]

  owes : (x : Effect) (who : UniqueModel) (m : Status × ℕ) → member_of (map.get v.standings who) ≡ Some m → ((number : ℕ) → Contains (led (unreachable_members v) confirmed number (who, m)) x) → Contains (leaders_effects v confirmed) x
  owes x who m is each = owed x (who, m) each (members_of v.standings) (have_members v.standings who m is) (greatest_number (members_of v.standings))

  pub owes_exit : (who : UniqueModel) → IsMemberWith v.standings who Leaving → Contains (leaders_effects v confirmed) (Rise who Exiting 0)
  owes_exit who member = owes (Rise who Exiting 0) who (Leaving, member.0) member.1 (λ number. contains_first (Rise who Exiting 0) [])

  chosen : (x : Effect) (b : Bool) (rest : List Effect) → b ≡ true → Contains (if b then x ∷ [] else rest) x
  chosen x true rest is = contains_first x []
  chosen x false rest is = absurd (true≢false (sym is))

  passed : (x : Effect) (b : Bool) (one rest : List Effect) → b ≡ false → Contains rest x → Contains (if b then one else rest) x
  passed x true one rest is there = absurd (true≢false is)
  passed x false one rest is there = there

  pub owes_confirmed : (who : UniqueModel) → IsMemberWith v.standings who Exiting ⊎ IsMemberWith v.standings who Down → IsTrue (has confirmed who) → Contains (leaders_effects v confirmed) (Removed who true)
  owes_confirmed who (inl exiting) said = owes (Removed who true) who (Exiting, exiting.0) exiting.1 (λ number. chosen (Removed who true) (has confirmed who) [] said)
  owes_confirmed who (inr down) said = owes (Removed who true) who (Down, down.0) down.1 (λ number. chosen (Removed who true) (has confirmed who) (if has (unreachable_members v) who then Removed who false ∷ [] else []) said)

  pub owes_removal : (who : UniqueModel) → IsMemberWith v.standings who Down → has confirmed who ≡ false → IsUnreachable v who → Contains (leaders_effects v confirmed) (Removed who false)
  owes_removal who down silent lost =
      owes (Removed who false) who (Down, down.0) down.1
      (λ number. passed (Removed who false) (has confirmed who) (Removed who true ∷ []) (if has (unreachable_members v) who then Removed who false ∷ [] else []) silent
      (chosen (Removed who false) (has (unreachable_members v) who) [] ((unreachable_means v who).1 lost)))

  -- a member that waits comes Up where there are numbers for all members
  abbrev HasRise : List Effect → UniqueModel → Type 0
  HasRise effects who = (number : ℕ) × Contains effects (Rise who Up number)

  rise_here : (who : UniqueModel) (status : Status) (up number : ℕ) → is_waiting status ≡ true → has_next number ≡ true → Contains (led (unreachable_members v) confirmed number (who, (status, up))) (Rise who Up (number + 1))
  rise_here who Joining up number waits next = chosen (Rise who Up (number + 1)) (has_next number) [] next
  rise_here who WeaklyUp up number waits next = chosen (Rise who Up (number + 1)) (has_next number) [] next
  rise_here who Up up number waits next = absurd (true≢false (sym waits))
  rise_here who Leaving up number waits next = absurd (true≢false (sym waits))
  rise_here who Exiting up number waits next = absurd (true≢false (sym waits))
  rise_here who Down up number waits next = absurd (true≢false (sym waits))

  next_if : (number : ℕ) (b : Bool) → (if b then number + 1 else number) ≤ number + 1
  next_if number true = omega arith
  next_if number false = omega arith

  next_most : (number : ℕ) (status : Status) → number_after number status ≤ number + 1
  next_most number Joining = next_if number (has_next number)
  next_most number WeaklyUp = next_if number (has_next number)
  next_most number Up = omega arith
  next_most number Leaving = omega arith
  next_most number Exiting = omega arith
  next_most number Down = omega arith

  owed_rise : (who : UniqueModel) (status : Status) → is_waiting status ≡ true → (up number : ℕ) (ms : List MemberPair) → Contains ms (who, (status, up)) → number + length ms ≤ BOUND → HasRise (all_led (unreachable_members v) confirmed number ms) who
  owed_rise who status waits up number [] there room = absurd (contains_nothing _ there)
  owed_rise who status waits up number (n ∷ ms) there room =
      let rest = all_led (unreachable_members v) confirmed (number_after number n.1.0) ms in
      elim (first_or_rest n (who, (status, up)) ms there) [
        | inl same ↦
            let below : number < BOUND = omega arith in (
              number + 1,
              subst (λ (r : MemberPair). Contains (led (unreachable_members v) confirmed number r ++ all_led (unreachable_members v) confirmed (number_after number r.1.0) ms) (Rise who Up (number + 1))) same
                  (contains_left (led (unreachable_members v) confirmed number (who, (status, up))) (all_led (unreachable_members v) confirmed (number_after number status) ms) (Rise who Up (number + 1))
                  (rise_here who status up number waits (lt-ltb number BOUND below))),
            )
        | inr later ↦
            let next = next_most number n.1.0 in
            let r = owed_rise who status waits up (number_after number n.1.0) ms later (omega arith) in
            (r.0, contains_right (led (unreachable_members v) confirmed number n) rest (Rise who Up r.0) r.1)
      ]

  pub owes_rise : (who : UniqueModel) → IsWaiting v.standings who → greatest_number (members_of v.standings) + length (members_of v.standings) ≤ BOUND → (number : ℕ) × Contains (leaders_effects v confirmed) (Rise who Up number)
  owes_rise who (status, member, waits) room = owed_rise who status waits member.0 (greatest_number (members_of v.standings)) (members_of v.standings) (have_members v.standings who (status, member.0) member.1) room

-- ---- the founding
pub joins : (status : Status) → is_joining status ≡ true → status ≡ Joining
joins Joining is = refl
joins WeaklyUp is = absurd (true≢false (sym is))
joins Up is = absurd (true≢false (sym is))
joins Leaving is = absurd (true≢false (sym is))
joins Exiting is = absurd (true≢false (sym is))
joins Down is = absurd (true≢false (sym is))

-- the effect at an index has the number after it
founded_at : (number : ℕ) (ms : List MemberPair) (i : ℕ) (x : Effect) → slice_get (all_founded number ms) i ≡ Some x → (m : MemberPair) × Contains ms m × (m.1.0 ≡ Joining) × (x ≡ Rise m.0 Up (number + i + 1))
founded_at number [] i x at = absurd (none-some x at)
founded_at number (m ∷ ms) i x at = by_status (is_joining m.1.0) refl i at (λ j h. founded_at (number + 1) ms j x h) (λ h. founded_at number ms i x h)
  where
    by_status : (b : Bool) → is_joining m.1.0 ≡ b → (i' : ℕ) → slice_get (if b then Rise m.0 Up (number + 1) ∷ all_founded (number + 1) ms else all_founded number ms) i' ≡ Some x
        → ((j : ℕ) → slice_get (all_founded (number + 1) ms) j ≡ Some x → (n : MemberPair) × Contains ms n × (n.1.0 ≡ Joining) × (x ≡ Rise n.0 Up (number + 1 + j + 1)))
        → (slice_get (all_founded number ms) i' ≡ Some x → (n : MemberPair) × Contains ms n × (n.1.0 ≡ Joining) × (x ≡ Rise n.0 Up (number + i' + 1)))
        → (n : MemberPair) × Contains (m ∷ ms) n × (n.1.0 ≡ Joining) × (x ≡ Rise n.0 Up (number + i' + 1))
    by_status true is zero at more same =
        let here : number + 1 ≡ number + 0 + 1 = omega arith in
        (m, contains_first m ms, joins m.1.0 is, sym (same_Some (Rise m.0 Up (number + 1)) x at) ∙ ap (Rise m.0 Up) here)
    by_status true is (suc j) at more same =
        let d = more j at in
        let later : number + 1 + j + 1 ≡ number + suc j + 1 = omega arith in
        (d.0, contains_rest m d.0 ms d.1, d.2, d.3 ∙ ap (Rise d.0.0 Up) later)
    by_status false is i' at more same = let d = same at in (d.0, contains_rest m d.0 ms d.1, d.2, d.3)

pub founds_at : (s : Standings) (i : ℕ) (x : Effect) → slice_get (founding_effects s) i ≡ Some x → (who : UniqueModel) × IsMemberWith s who Joining × (x ≡ Rise who Up (i + 1))
founds_at s i x at =
    let d = founded_at 0 (members_of s) i x at in
    let number : 0 + i + 1 ≡ i + 1 = omega arith in
    (d.0.0, (d.0.1.1, members_have s d.0 d.1 ∙ ap (λ status. Some (status, d.0.1.1)) d.2), d.3 ∙ ap (Rise d.0.0 Up) number)

founded_each : (who : UniqueModel) (up : ℕ) (ms : List MemberPair) → Contains ms (who, (Joining, up)) → (number : ℕ) → (n : ℕ) × Contains (all_founded number ms) (Rise who Up n)
founded_each who up [] there number = absurd (contains_nothing _ there)
founded_each who up (m ∷ ms) there number =
    elim (first_or_rest m (who, (Joining, up)) ms there) [
      | inl same ↦ (number + 1, subst (λ (r : MemberPair). Contains (all_founded number (r ∷ ms)) (Rise who Up (number + 1))) same (contains_first (Rise who Up (number + 1)) (all_founded (number + 1) ms)))
      | inr later ↦ by_status (is_joining m.1.0) (founded_each who up ms later (number + 1)) (founded_each who up ms later number)
    ]
  where
    by_status : (b : Bool) → (n : ℕ) × Contains (all_founded (number + 1) ms) (Rise who Up n) → (n : ℕ) × Contains (all_founded number ms) (Rise who Up n)
        → (n : ℕ) × Contains (if b then Rise m.0 Up (number + 1) ∷ all_founded (number + 1) ms else all_founded number ms) (Rise who Up n)
    by_status true more same = (more.0, contains_rest (Rise m.0 Up (number + 1)) (Rise who Up more.0) (all_founded (number + 1) ms) more.1)
    by_status false more same = same

pub founds_each : (s : Standings) (who : UniqueModel) → IsMemberWith s who Joining → (number : ℕ) × Contains (founding_effects s) (Rise who Up number)
founds_each s who member = founded_each who member.0 (members_of s) (have_members s who (Joining, member.0) member.1) 0
