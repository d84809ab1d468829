-- Ballots and versions that a node keeps stay in their ranges, and what it has settled fits into a packet.
use Rattle.std.proofs.Common.{◌≡◌, ℕ, zero, suc, ◌+◌, ◌<◌, ◌≤◌, max, Bool, true, false, not, ◌||◌, List, [], ◌∷◌, slice_get, Option, Some, None, is_some, unwrap_or, IfSome, IsTrue, Contains, refl, sym, ap, ◌∙◌, subst, arith, true≢false}
use Rattle.std.proofs.lemmas.Option.{same_Some}
use Rattle.std.specs.FinMap as finmap
use Rattle.std.specs.List.{AllByRecursion}
use Rattle.std.specs.Ordering.{eq_by_cmp}
use Rattle.std.specs.Cmp.{first_so}
use Rattle.ak_sharding.specs.Ranges.{AreUniques}
use Rattle.ak_sharding.proofs.TableRanges.{nobody_in}
use Rattle.ak_address.specs.Unique.{UniqueModel, IsUnique, unique_cmp}
use Rattle.ak_address.specs.Uniques.{UniqueSet, no_one, with_one, has, in_order}
use Rattle.ak_address.proofs.Elements.{index_of}
use Rattle.ak_address.proofs.TableLaws.{get_at, index_of_get, same_key}
use Rattle.ak_address.proofs.UniquesLaws.{has-no_one, has-with_one, has-those, has_at}
use Rattle.ak_clock.specs.declared.version.TheConstants.{BOUND}
use Rattle.ak_clock.specs.Version.{Counts, count, merged}
use Rattle.ak_clock.proofs.VersionLaws.{count-empty, count-merged, empty_is_version, merged_is_version, stored_count}
use Rattle.ak_field.specs.Lists.{IsShort}
use Rattle.ak_field.specs.Ranges.{IsNumber}
use Rattle.ak_field.proofs.ValidLists.{is_short_when}
use Rattle.ak_gossip.specs.Gossip.{GossipState, IsGossip, is_known}
use Rattle.ak_member.specs.declared.status.Status.{Status}
use Rattle.ak_member.specs.declared.standing.Standing.{Standing}
use Rattle.ak_promise.specs.declared.promise.Answer.{Answer}
use Rattle.ak_promise.specs.declared.promise.Answer.TheVariants as given
use Rattle.ak_promise.specs.Ballot.{BallotModel, IsBallot}
use Rattle.ak_promise.specs.Promise.{asked, after_ask, answer_to, freed, freed_after, is_last, after_release, released_by}
use Rattle.ak_settled.specs.SettledView.{SettledView}
use Rattle.ak_settled.specs.Settled.{version_of, standings_of, needed}
use Rattle.ak_settled.proofs.SettledLaws as settled
use Rattle.ak_singleton.specs.declared.phase.Phase.{Phase}
use Rattle.ak_singleton.specs.declared.phase.Phase.TheVariants as phase
use Rattle.ak_singleton.specs.declared.phase.TickRule.{TickRule}
use Rattle.ak_singleton.specs.declared.phase.TickRule.TheVariants as rules
use Rattle.ak_singleton.specs.Singleton.{SingletonModel, needed_but, next_term, own_ballot, tick_rule, after_rule, after_granted, is_outdone, after_old, ended, ended_from, after_activation}
use Rattle.ak_singleton.proofs.RulesMeant.{outdone_is, opens_below}
use Rattle.ak_node.specs.declared.node.State.{State}
use Rattle.ak_node.specs.Node.{settled_of, margin_of, most_in_version}
use Rattle.ak_node.specs.Sends.{IsCounted, KeepsBallots, KeepsSettled}
use Rattle.ak_node.proofs.FewerKeys.{fewer_keys}

-- ---- versions
pub counted_empty : IsCounted finmap.empty
counted_empty = record { version = empty_is_version; uniques = λ who more. absurd (let none = count-empty who in omega arith) }

pub counted_merged : (v w : Counts) → IsCounted v → IsCounted w → IsCounted (merged v w)
counted_merged v w x y = record { version = merged_is_version v w x.version y.version; uniques = λ who more. by_count who (count v who) refl (subst (λ k. 1 ≤ k) (count-merged v w who) more) }
  where
    by_count : (who : UniqueModel) (k : ℕ) → count v who ≡ k → 1 ≤ max (count v who) (count w who) → IsUnique who
    by_count who zero is more = y.uniques who (let none : max (count v who) (count w who) ≡ count w who = ap (λ k. max k (count w who)) is ∙ max_zero (count w who) in omega arith)
      where
        max_zero : (k : ℕ) → max 0 k ≡ k
        max_zero k = omega arith
    by_count who (suc k) is more = x.uniques who (omega arith)

-- a version that is counted, and fits
pub counted_short : (v : Counts) → IsCounted v → finmap.len v ≤ most_in_version → IsShort v
counted_short v c few = (is_short_when v true few ((λ _ i pair at. fits pair (get_at v i pair at)), λ _. refl)).0 refl
  where
    fits : (pair : UniqueModel × ℕ) → finmap.get v pair.0 ≡ Some pair.1 → IsUnique pair.0 × IsNumber pair.1
    fits pair at =
        let n = stored_count v pair.0 pair.1 c.version at in
        (c.uniques pair.0 (subst (λ k. 1 ≤ k) (sym (ap (λ o. unwrap_or o 0) at)) n.0), record { some = n.0; bounded = n.1 })

-- what is true of each is true at an index
each_at : {X : Type 0} (P : X → Type 0) (xs : List X) → AllByRecursion P xs → (i : ℕ) (x : X) → slice_get xs i ≡ Some x → P x
each_at P [] all i x at = absurd (nothing_at x i at)
  where
    nothing_at : {X : Type 0} (x : X) (i : ℕ) → slice_get [] i ≡ Some x → ⊥
    nothing_at x zero at = true≢false (sym (ap is_some at))
    nothing_at x (suc i) at = true≢false (sym (ap is_some at))
each_at P (y ∷ xs) all zero x at = subst P (same_Some y x at) all.0
each_at P (y ∷ xs) all (suc i) x at = each_at P xs all.1 i x at

-- a version that has a spelling counts processes, which are in their ranges
pub short_counted : (v : Counts) → IsShort v → IsCounted v
short_counted v short = record {
  version = record { no_zero = λ u at. let is = (at_key u 0 at).1.some in omega arith; bounded = λ u. by_value u (finmap.get v u) refl };
  uniques = λ who more. by_more who (finmap.get v who) refl more;
}
  where
    at_key : (who : UniqueModel) (n : ℕ) → finmap.get v who ≡ Some n → IsUnique who × IsNumber n
    at_key who n at = let e = index_of_get v who n at in each_at (λ (pair : UniqueModel × ℕ). IsUnique pair.0 × IsNumber pair.1) (finmap.entries v) short.each e.0 (who, n) e.1

    by_value : (u : UniqueModel) (o : Option ℕ) → finmap.get v u ≡ o → unwrap_or o 0 ≤ BOUND
    by_value u None at = omega arith
    by_value u (Some n) at = (at_key u n at).1.bounded

    by_more : (u : UniqueModel) (o : Option ℕ) → finmap.get v u ≡ o → 1 ≤ unwrap_or o 0 → IsUnique u
    by_more u None at more = absurd (omega arith)
    by_more u (Some n) at more = (at_key u n at).0

-- what is known has a version that fits
pub known_fits : (g : GossipState) → IsGossip g → ((who : UniqueModel) → IsTrue (is_known g.view.standings who) → IsUnique who) → IsCounted g.version × (finmap.len g.version ≤ most_in_version)
known_fits g is names = (
  record { version = is.version; uniques = λ who more. names who (is.counted who more) },
  (let le = fewer_keys g.version g.view.standings (λ q there. is.counted q (by_value q (finmap.get g.version q) refl there)) in let few = is.few in omega arith),
)
  where
    by_value : (q : UniqueModel) (o : Option ℕ) → finmap.get g.version q ≡ o → is_some o ≡ true → 1 ≤ count g.version q
    by_value q None at there = absurd (true≢false (sym there))
    by_value q (Some n) at there = subst (λ k. 1 ≤ k) (sym (ap (λ o. unwrap_or o 0) at)) (stored_count g.version q n is.version at).0

-- ---- sets
one_in : (s : UniqueSet) (one : UniqueModel) → IsUnique one → AreUniques s → AreUniques (with_one s one)
one_in s one is all who there = by_test (eq_by_cmp unique_cmp who one) refl (sym (has-with_one s one who) ∙ there)
  where
    by_test : (b : Bool) → eq_by_cmp unique_cmp who one ≡ b → (b || has s who) ≡ true → IsUnique who
    by_test true same h = subst IsUnique (sym (same_key who one same)) is
    by_test false apart h = all who h

-- ---- what is kept of the singleton
module _ (s : SingletonModel) (k : KeepsBallots s) where
  freed_kept : (v : Counts) → IsCounted v → (ph : Phase) (floor : Counts) → KeepsBallots (record { promise = freed v s.promise; phase = ph; live = None; granted = no_one; floor = floor })
  freed_kept v counted ph floor = by_last s.promise.last refl
    where
      no_live : (c : BallotModel) → None ≡ Some c → IsBallot c
      no_live c none = absurd (true≢false (sym (ap is_some none)))

      by_last : (o : Option BallotModel) → s.promise.last ≡ o → KeepsBallots (record { promise = freed_after o v s.promise; phase = ph; live = None; granted = no_one; floor = floor })
      by_last None at = record { last = k.last; live = no_live; floor = k.floor; granted = nobody_in }
      by_last (Some b) at = record { last = k.last; live = no_live; floor = counted_merged s.promise.floor v k.floor counted; granted = nobody_in }

  pub released_kept : (b : BallotModel) (v : Counts) → IsCounted v → KeepsBallots (record s { promise = released_by s.promise b v })
  released_kept b v counted = by_test (is_last s.promise b)
    where
      by_test : (r : Bool) → KeepsBallots (record s { promise = after_release r v s.promise })
      by_test true = record { last = k.last; live = k.live; floor = counted_merged s.promise.floor v k.floor counted; granted = k.granted }
      by_test false = record { last = k.last; live = k.live; floor = k.floor; granted = k.granted }

  pub asked_kept : (b : BallotModel) → IsBallot b → (finished : Bool) → KeepsBallots (record s { promise = asked s.promise b finished })
  asked_kept b is finished = by_answer (answer_to s.promise b finished)
    where
      by_answer : (r : Answer) → KeepsBallots (record s { promise = after_ask r b s.promise })
      by_answer given.Granted = record { last = λ c at. subst IsBallot (same_Some b c at) is; live = k.live; floor = k.floor; granted = k.granted }
      by_answer given.Old = record { last = k.last; live = k.live; floor = k.floor; granted = k.granted }
      by_answer given.Busy = record { last = k.last; live = k.live; floor = k.floor; granted = k.granted }

  pub granted_kept : (r : Bool) (from : UniqueModel) → IsUnique from → (floor : Counts) → KeepsBallots (after_granted r from floor s)
  granted_kept true from is floor = record { last = k.last; live = k.live; floor = k.floor; granted = one_in s.granted from is k.granted }
  granted_kept false from is floor = k

  -- the node's next ballot
  own_is : (me : UniqueModel) → IsUnique me → IfSome s.promise.last (λ b. b.term < BOUND) → IsBallot (own_ballot me s.promise)
  own_is me is below = record { unique = is; term = least s.promise.last; term_fits = most s.promise.last below }
    where
      least : (o : Option BallotModel) → 1 ≤ next_term o
      least None = omega arith
      least (Some b) = omega arith

      most : (o : Option BallotModel) → IfSome o (λ b. b.term < BOUND) → next_term o ≤ BOUND
      most None none = bound_positive
        where
          bound_positive : 1 ≤ BOUND
          bound_positive = omega arith
      most (Some b) less = omega arith

  pub rule_kept : (me : UniqueModel) → IsUnique me → (v : SettledView) → IsCounted (version_of v) → (status : Status) (margin : ℕ) → KeepsBallots (after_rule (tick_rule me v status margin s) me v s)
  rule_kept me is v counted status margin = by_rule (tick_rule me v status margin s) refl
    where
      by_rule : (r : TickRule) → tick_rule me v status margin s ≡ r → KeepsBallots (after_rule r me v s)
      by_rule rules.Rests at = k
      by_rule rules.Opens at =
          let own = own_is me is (opens_below me v status margin s at) in
          record { last = λ c same. subst IsBallot (same_Some (own_ballot me s.promise) c same) own; live = λ c same. subst IsBallot (same_Some (own_ballot me s.promise) c same) own; floor = k.floor; granted = one_in no_one me is nobody_in }
      by_rule rules.HandsOver at = k
      by_rule rules.Closes at = freed_kept (version_of v) counted phase.Younger finmap.empty
      by_rule rules.Asks at = k

  pub old_kept : (b last : BallotModel) → IsBallot b → KeepsBallots (after_old (is_outdone b last s) b last s)
  old_kept b last is = by_test (is_outdone b last s) refl
    where
      by_test : (r : Bool) → is_outdone b last s ≡ r → KeepsBallots (after_old r b last s)
      by_test true at =
          let below = ((outdone_is b last s).0 at).3 in
          let next : IsBallot (record { term = last.term + 1; unique = b.unique }) = record { unique = is.unique; term = omega arith; term_fits = omega arith } in
          record { last = λ c same. subst IsBallot (same_Some (record { term = last.term + 1; unique = b.unique }) c same) next; live = λ c same. subst IsBallot (same_Some (record { term = last.term + 1; unique = b.unique }) c same) next; floor = k.floor; granted = one_in no_one b.unique is.unique nobody_in }
      by_test false at = k

  pub ended_kept : (v : SettledView) → IsCounted (version_of v) → KeepsBallots (ended v s)
  ended_kept v counted = by_phase s.phase
    where
      by_phase : (ph : Phase) → KeepsBallots (ended_from ph v s)
      by_phase phase.Younger = record { last = k.last; live = k.live; floor = k.floor; granted = k.granted }
      by_phase phase.Asking = freed_kept (version_of v) counted phase.Ended finmap.empty
      by_phase phase.Active = freed_kept (version_of v) counted phase.Ended finmap.empty
      by_phase phase.Ended = k

  pub active_kept : (b : Bool) → KeepsBallots (after_activation b s)
  active_kept true = record { last = k.last; live = k.live; floor = k.floor; granted = k.granted }
  active_kept false = k

-- ---- what is settled
pub settled_alike : (n m : State) → version_of (settled_of m) ≡ version_of (settled_of n) → standings_of (settled_of m) ≡ standings_of (settled_of n) → KeepsSettled n → KeepsSettled m
settled_alike n m version standings k = record {
  version = subst IsCounted (sym version) k.version;
  few = subst (λ v. finmap.len v ≤ most_in_version) (sym version) k.few;
  processes = λ who is. k.processes who (subst (λ s. IsTrue (is_known s who)) standings is);
}

-- whom the node needs is a process
pub needed_process : (n : State) → KeepsSettled n → (others : UniqueSet) (u : UniqueModel) → Contains (in_order (needed_but (margin_of n) (settled_of n) others)) u → IsUnique u
needed_process n k others u there =
    let at = index_of (in_order (needed_but (margin_of n) (settled_of n) others)) u there in
    let both = sym (has-those (needed (margin_of n) (settled_of n)) (λ who. not (has others who)) u) ∙ has_at (needed_but (margin_of n) (settled_of n) others) at.0 u at.1 in
    k.processes u (by_value (finmap.get (standings_of (settled_of n)) u) refl (first_so (has (needed (margin_of n) (settled_of n)) u) (not (has others u)) both))
  where
    by_value : (o : Option Standing) → finmap.get (standings_of (settled_of n)) u ≡ o → has (needed (margin_of n) (settled_of n)) u ≡ true → is_known (standings_of (settled_of n)) u ≡ true
    by_value None at needs = absurd (true≢false (sym needs ∙ (settled.unknown (margin_of n) (settled_of n) u at).0))
    by_value (Some x) at needs = ap is_some at

pub nobody_there : (u : UniqueModel) → Contains (in_order no_one) u → ⊥
nobody_there u there = let at = index_of (in_order no_one) u there in true≢false (sym (has_at no_one at.0 u at.1) ∙ has-no_one u)
