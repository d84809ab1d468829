-- Each call of a region changes the marks of its node as a short list of moves does. What the guards say of packets and of the
-- last promise is given: whoever gave the order said it, and its ballot is the last that the node promised.
use Rattle.std.proofs.Common.{◌≡◌, ◌⊎◌, ℕ, ◌<◌, ◌≤◌, ◌&&◌, ltb, inl, inr, Bool, true, false, List, [], ◌∷◌, length, Contains, Some, refl, sym, ap, ◌∙◌, subst, arith, true≢false}
use Rattle.std.proofs.lemmas.Bool.{ltb-true}
use Rattle.std.proofs.Math.Nat.{le-max_left, le-max_right}
use Rattle.ak_address.proofs.Elements.{contains_nothing, first_or_rest}
use Rattle.ak_promise.specs.Ballot.{BallotModel}
use Rattle.ak_line.specs.Name.{Name}
use Rattle.ak_line.specs.Line.{Line}
use Rattle.ak_line.specs.Shards.{Mark, put_at, yielded}
use Rattle.ak_line.specs.Moves.{Node, Said, Move}
use Rattle.ak_line.specs.Local.{Named}
use Rattle.ak_line.specs.Becomes.{Becomes}
use Rattle.ak_line.proofs.PlacedPuts.{at_put}
use Rattle.ak_line.proofs.BecomesLemmas.{stays, then, becomes_same, one_move}
use Rattle.ak_region.specs.declared.slot.Hosting.{Hosting}
use Rattle.ak_region.specs.declared.slot.Hosting.TheVariants.{New, Again, Ignored}
use Rattle.ak_region.specs.Shards.{ShardSlot, IsSlot}
use Rattle.ak_region.specs.Slot.{host_answer, after_host, handed_off}
use Rattle.ak_region.specs.RegionModel.{RegionModel}
use Rattle.ak_region.specs.Region.{slot_of, with_slot}
use Rattle.ak_region.specs.Marks.{shown, marks_of}
use Rattle.ak_region.proofs.MarkLemmas.{marks_put, marks_same, newly_hosts, handed_shown}

module _ {V : Type 0} (l : Line V) (above : BallotModel → BallotModel → Type 0) (heard : Name → Said V → Type 0) (stopped : Name → Type 0) (me : Name) where
  says_one : (x y : Said V) → Contains (x ∷ []) y → x ≡ y
  says_one x y there = elim (first_or_rest x y [] there) [ inl is ↦ sym is | inr nowhere ↦ absurd (contains_nothing y nowhere) ]

  -- what is said names a ballot: the last one, or one that was heard
  pub names : (n : Node V) (b : BallotModel) → n.runs ≡ true → (n.last ≡ Some b) ⊎ Named l above heard stopped b → Becomes l above heard stopped me n n (Said.Names b ∷ [])
  names n b running known = one_move l above heard stopped me n (Move.Say me b) (Said.Names b ∷ []) running refl known (λ x there. ap Some (says_one (Said.Names b) x there))

  module _ (n : Node V) (running : n.runs ≡ true) (region : RegionModel) (same : n.marks ≡ marks_of region) (shard : ℕ) (inside : shard < length region.slots) where
    abbrev slot : ShardSlot
    slot = slot_of region shard

    mark_is : n.marks shard ≡ shown slot
    mark_is = ap (λ f. f shard) same

    -- a node with the marks of the region after one slot was replaced
    put_is : (s : ShardSlot) → record n { marks = put_at shard (shown s) n.marks } ≡ record n { marks = marks_of (with_slot region shard s) }
    put_is s = λ i. record n { marks = (ap (put_at shard (shown s)) same ∙ sym (marks_put region shard s inside)) i }

    same_is : (s : ShardSlot) → shown s ≡ shown slot → n ≡ record n { marks = marks_of (with_slot region shard s) }
    same_is s is = λ i. record n { marks = (same ∙ sym (marks_same region shard s inside is)) i }

    -- ---- the order to host
    -- where the shard is hosted then, this is said, by a packet that names the ballot
    abbrev pub SaysInHosting : Hosting → BallotModel → List (Said V) → Type 0
    SaysInHosting New b says = says ≡ Said.Names b ∷ []
    SaysInHosting Again b says = says ≡ Said.Names b ∷ []
    SaysInHosting Ignored b says = says ≡ []

    abbrev AfterHost : ℕ → Hosting → List (Said V) → Type 0
    AfterHost number h says = Becomes l above heard stopped me n (record n { marks = marks_of (with_slot region shard (after_host me number h slot)) }) says

    pub host_is_moves : (number : ℕ) (b : BallotModel) (z : Name) → heard z (Said.HostShard b me shard number) → n.last ≡ Some b
        → (says : List (Said V)) × SaysInHosting (host_answer number slot) b says × AfterHost number (host_answer number slot) says
    host_is_moves number b z was_heard last = by_answer (host_answer number slot) refl
      where
        hosts : host_answer number slot ≡ New → AfterHost number New (Said.Names b ∷ [])
        hosts is =
            let new = newly_hosts number slot is in
            let m : Node V = record n { marks = put_at shard (record { number = number; hosts = true }) n.marks } in
            becomes_same l above heard stopped me n m _ _ (put_is (after_host me number New slot))
            (then l above heard stopped me n m m [] (Said.Names b ∷ [])
            (one_move l above heard stopped me n (Move.Host me b shard number) [] running refl
            (last, (z, was_heard), ap (λ (k : Mark). k.hosts) mark_is ∙ new.0, subst (λ (k : Mark). k.number < number) (sym mark_is) new.1) (λ x there. absurd (contains_nothing x there)))
            (names m b running (inl last)))

        by_answer : (h : Hosting) → host_answer number slot ≡ h → (says : List (Said V)) × SaysInHosting h b says × AfterHost number h says
        by_answer New is = (Said.Names b ∷ [], refl, hosts is)
        by_answer Again is = (Said.Names b ∷ [], refl, becomes_same l above heard stopped me n n _ _ (same_is slot refl) (names n b running (inl last)))
        by_answer Ignored is = ([], refl, becomes_same l above heard stopped me n n _ _ (same_is slot refl) (stays l above heard stopped me n))

    -- ---- the shard is handed off
    pub hand_off_is_moves : IsSlot slot → (number : ℕ) (b : BallotModel) (z : Name) → heard z (Said.HandOff b me shard number) → n.last ≡ Some b
        → Becomes l above heard stopped me n (record n { marks = marks_of (with_slot region shard (handed_off number slot)) }) (Said.ShardStopped b shard number ∷ [])
    hand_off_is_moves is number b z was_heard last =
        let m : Node V = record n { marks = put_at shard (yielded number (n.marks shard)) n.marks } in
        becomes_same l above heard stopped me n m _ _
        ((λ i. record n { marks = put_at shard ((ap (yielded number) mark_is ∙ sym (handed_shown number slot is)) i) n.marks }) ∙ put_is (handed_off number slot))
        (then l above heard stopped me n m m [] (Said.ShardStopped b shard number ∷ [])
        (one_move l above heard stopped me n (Move.Yield me b shard number) [] running refl (last, (z, was_heard)) (λ x there. absurd (contains_nothing x there)))
        (one_move l above heard stopped me m (Move.Confirm me b shard number) (Said.ShardStopped b shard number ∷ []) running refl (last, marked, greater) (λ x there. ap Some (says_one _ x there))))
      where
        both : (a c : Bool) → (a && c) ≡ true → c ≡ true
        both true true is = refl
        both true false is = absurd (true≢false (sym is))
        both false c is = absurd (true≢false (sym is))

        marked : number ≤ (put_at shard (yielded number (n.marks shard)) n.marks shard).number
        marked = at_put (λ (k : Mark). number ≤ k.number) shard (yielded number (n.marks shard)) n.marks shard (λ _. le-max_right (n.marks shard).number number) (λ other. absurd (other refl))

        greater : (put_at shard (yielded number (n.marks shard)) n.marks shard).hosts ≡ true → number < (put_at shard (yielded number (n.marks shard)) n.marks shard).number
        greater = at_put (λ (k : Mark). k.hosts ≡ true → number < k.number) shard (yielded number (n.marks shard)) n.marks shard
            (λ _ hosts. let less = ltb-true number (n.marks shard).number (both (n.marks shard).hosts (ltb number (n.marks shard).number) hosts) in let le = le-max_left (n.marks shard).number number in omega arith)
            (λ other. absurd (other refl))
