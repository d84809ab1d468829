-- A step of one node keeps why members rise, and that no version names whoever starts later.
use Rattle.std.proofs.Common.{◌≡◌, ℕ, Bool, true, ◌⊎◌, inl, inr, List, ◌∷◌, ◌++◌, Option, Some, slice_get, Contains, IsTrue, refl, sym, ap, ◌∙◌, subst, true≢false}
use Rattle.std.proofs.lemmas.Option.{same_Some}
use Rattle.std.specs.FinMap as map
use Rattle.ak_address.specs.Unique.{UniqueModel}
use Rattle.ak_address.proofs.Elements.{first_or_rest, contains_rest}
use Rattle.ak_clock.specs.Version.{Counts, count}
use Rattle.ak_member.specs.declared.effect.Effect.{Effect}
use Rattle.ak_member.specs.declared.effect.Effect.TheVariants.{Joined, Rise, Removed, Observed}
use Rattle.ak_member.specs.declared.status.Status.{Status}
use Rattle.ak_member.specs.declared.status.Status.TheVariants.{Joining, WeaklyUp, Up, Leaving, Exiting, Down}
use Rattle.ak_member.specs.Standing as standing
use Rattle.ak_member.specs.Standing.{member_of, is_up}
use Rattle.ak_member.specs.View.{View}
use Rattle.ak_leader.specs.Led.{IsMemberWith}
use Rattle.ak_converge.specs.Convergence.{is_settled}
use Rattle.ak_history.specs.declared.entry.Entry.{Entry}
use Rattle.ak_history.specs.History.{entries_of, IsNumbered, IsBounded, view}
use Rattle.ak_history.specs.Shown.{IsNamed}
use Rattle.ak_settings.specs.Settings.{SettingsModel, settling_size}
use Rattle.ak_membership.specs.Tick.{has_settled}
use Rattle.ak_membership.specs.Knowledge.{Knowledge, Keeps, Updates, Accepts, made_by, HasMember, IsFounding, IsCause, IsLawful}
use Rattle.ak_membership.proofs.Causes.{status_of, joining_member}
use Rattle.ak_node.specs.declared.node.State.{State}
use Rattle.ak_node.specs.declared.node.NodeEvent.{NodeEvent}
use Rattle.ak_node.specs.Node.{known, me_of, step}
use Rattle.ak_node.specs.Change.{given_by}
use Rattle.ak_node.proofs.StepChanges.{step_changes}
use Rattle.ak_world.specs.World.{Done, stepped}
use Rattle.ak_world.specs.Remembered.{Remembered, IsClosed, entries_in, holding, basing, remembers}
use Rattle.ak_world.proofs.Agreed.{IsAgreed, settled_agreed, Grows, bounded_then}
use Rattle.ak_world.proofs.Basis.{Basis}
use Rattle.ak_world.proofs.ClosedRuns.{by_updates, entry_of, from-updates, keeps_closed}
use Rattle.ak_world.proofs.IndexLemmas.{set_at, set_here, set_elsewhere}
use Rattle.ak_world.proofs.Naming.{member_named}
use Rattle.ak_world.proofs.RaisedFor.{IsFoundation, MayDo, NoForesight, Raised, FoundersStay, may_then}
use Rattle.ak_world.proofs.Rises.{named_back, up_rose}

pub up_is : (status : Status) → is_up status ≡ true → status ≡ Up
up_is Joining is = absurd (true≢false (sym is))
up_is WeaklyUp is = absurd (true≢false (sym is))
up_is Up is = refl
up_is Leaving is = absurd (true≢false (sym is))
up_is Exiting is = absurd (true≢false (sym is))
up_is Down is = absurd (true≢false (sym is))

-- an entry is the update, made from what the author knew
record IsUpdate (me : UniqueModel) (own : Counts) (k : Knowledge) (entry : Entry) (base : Counts) : Type 0 where
  updates : k ≡ Updates entry.effects
  author : entry.author ≡ me
  from : base ≡ own

-- an entry after a change is an old one, or the update
old_or_update : (me : UniqueModel) (own : Counts) (based : List (Entry × Counts)) (k : Knowledge) (entry : Entry) (base : Counts) → Contains (by_updates me own (made_by k) based) (entry, base)
    → Contains based (entry, base) ⊎ IsUpdate me own k entry base
old_or_update me own based Keeps entry base there = inl there
old_or_update me own based (Updates effects) entry base there = elim (first_or_rest (entry_of me effects based, own) (entry, base) based there) [
  | inl is ↦ inr (record { updates = ap (λ (x : Entry × Counts). Updates x.0.effects) (sym is); author = ap (λ (x : Entry × Counts). x.0.author) is; from = ap (λ (x : Entry × Counts). x.1) is })
  | inr old ↦ inl old
]
old_or_update me own based (Accepts g) entry base there = inl there

module _ (settings : SettingsModel) (r : Remembered) (k : Raised settings r) where
  pub base_bounded : (entry : Entry) (base : Counts) → Contains r.based (entry, base) → IsBounded r.world.history base
  base_bounded entry base there = subst (λ h. IsBounded h base) k.basis.closing.entries (k.basis.closing.at_bases entry base there).0

  module _ (e : NodeEvent) (index : ℕ) (n : State) (founded : Bool) (at : slice_get r.world.nodes index ≡ Some n) (runs : IsTrue n.runs) where
    abbrev size : ℕ
    size = settling_size settings.strategy

    abbrev done : Done
    done = stepped index (step e n) (record r.world { founded = founded })

    abbrev s : Remembered
    s = remembers done r

    numbered : IsNumbered (entries_in r.based)
    numbered = subst IsNumbered (sym k.basis.closing.entries) k.basis.closing.sound.is_numbered

    mine : count (known n).version (me_of n) ≡ entries_of (me_of n) (entries_in r.based)
    mine = (k.basis.closing.sound.each index n at).own ∙ ap (entries_of (me_of n)) (sym k.basis.closing.entries)

    held_is : s.held ≡ (me_of (step e n).0, (known (step e n).0).version) ∷ r.held
    held_is = ap (λ x. holding x r.held) (set_here r.world.nodes index n (step e n).0 at)

    based_is : s.based ≡ by_updates (me_of n) (known n).version (made_by (step_changes e n runs).knowledge) r.based
    based_is =
        ap (λ (x : Option State). basing x (step e n).1 r.based) at ∙ from-updates (me_of n) (known n).version (step e n).1 r.based
        ∙ ap (λ l. by_updates (me_of n) (known n).version l r.based) (step_changes e n runs).made

    module _ (next : Basis settings s) (more : List Entry) (grown : s.world.history ≡ more ++ r.world.history) where
      pub grows : Grows r s
      grows = record {
        more = more;
        grown = grown;
        numbered = next.closing.sound.is_numbered;
        held = λ x there. subst (λ l. Contains l x) (sym held_is) (contains_rest _ x r.held there);
        closed = λ v bounded closed. subst (λ b. IsClosed b v) (sym based_is)
            (keeps_closed r.based numbered (me_of n) (known n) mine (step_changes e n runs).knowledge v (subst (λ h. IsBounded h v) (sym k.basis.closing.entries) bounded) closed);
      }

      founders : FoundersStay r s
      founders j m is f = elim (set_elsewhere r.world.nodes index j (step e n).0 m is) [
        | inl same ↦
            let node_is : m ≡ n = same_Some m n (sym is ∙ ap (slice_get r.world.nodes) same ∙ at) in
            let c = step_changes e n runs in (
              (step e n).0,
              ap (slice_get s.world.nodes) same ∙ set_here r.world.nodes index n (step e n).0 at,
              c.same_me ∙ ap me_of (sym node_is),
              c.founds (ap (λ (x : State). x.membership.founder) (sym node_is) ∙ f),
            )
        | inr there ↦ (m, there, refl, f)
      ]

      bounded_next : (who : UniqueModel) (v : Counts) → Contains s.held (who, v) → IsBounded s.world.history v
      bounded_next who v there = elim (first_or_rest _ (who, v) r.held (subst (λ l. Contains l (who, v)) held_is there)) [
        | inl new ↦ subst (IsBounded s.world.history) (sym (ap (λ (x : UniqueModel × Counts). x.1) new)) (next.closing.sound.each index (step e n).0 (set_here r.world.nodes index n (step e n).0 at)).fold.bounded
        | inr old ↦ bounded_then r s grows v (k.bounded who v old)
      ]

      -- which old node stands where
      was_at : (j : ℕ) (m : State) → slice_get s.world.nodes j ≡ Some m → (x : State) × (slice_get r.world.nodes j ≡ Some x) × (me_of x ≡ me_of m)
      was_at = set_at (λ j (m : State). (x : State) × (slice_get r.world.nodes j ≡ Some x) × (me_of x ≡ me_of m)) r.world.nodes index (step e n).0
          (λ j m is elsewhere. (m, is, refl)) (n, at, sym (step_changes e n runs).same_me)

      -- the acting process runs, so none started after it at its address
      foresight_next : NoForesight s
      foresight_next i j a b v lt is js same there named =
          let x = was_at i a is in
          let y = was_at j b js in
          let address : (me_of x.0).address ≡ (me_of y.0).address = ap (λ (u : UniqueModel). u.address) x.2 ∙ same ∙ ap (λ (u : UniqueModel). u.address) (sym y.2) in
          elim (first_or_rest _ (me_of a, v) r.held (subst (λ l. Contains l (me_of a, v)) held_is there)) [
            | inl new ↦
                let me : me_of x.0 ≡ me_of n = x.2 ∙ ap (λ (p : UniqueModel × Counts). p.0) new ∙ (step_changes e n runs).same_me in
                let i_is : i ≡ index = k.basis.processes.sound.apart i index x.0 n x.1 at me in
                let node_is : x.0 ≡ n = same_Some x.0 n (sym x.1 ∙ ap (slice_get r.world.nodes) i_is ∙ at) in
                true≢false (sym (ap (λ (q : State). q.runs) node_is ∙ runs) ∙ k.basis.by_start.older_stopped i j x.0 y.0 lt x.1 y.1 address)
            | inr old ↦
                let old_held : Contains r.held (me_of x.0, v) = subst (λ q. Contains r.held (q, v)) (sym x.2) old in
                k.no_foresight i j x.0 y.0 v lt x.1 y.1 address old_held
                (subst (IsNamed r.world.history v) (sym y.2) (named_back more r.world.history v (me_of b) (subst IsNumbered grown next.closing.sound.is_numbered) (k.bounded (me_of x.0) v old_held) (subst (λ h. IsNamed h v (me_of b)) grown named)))
          ]

      -- ---- a new entry's effects have causes
      n_shown : (known n).view ≡ view r.world.history (known n).version
      n_shown = (k.basis.processes.sound.each index n at).fold.shown

      is_named : (who : UniqueModel) → HasMember n.membership who → IsNamed r.world.history (known n).version who
      is_named who is = member_named r.world.history (known n).version who (ap (λ (v : View). standing.is_member v.standings who) (sym n_shown) ∙ is)

      settled_base : IsTrue (has_settled n.membership) → IsAgreed r size settings.role (known n).version
      settled_base is =
          settled_agreed r size settings.role (known n) (k.basis.processes.sound.each index n at).fold (k.basis.closing.at_nodes index n at) (k.basis.seeing.at_nodes index n at)
          (ap (λ (x : SettingsModel). is_settled (settling_size x.strategy) x.role (known n).view (known n).seen) (sym (k.basis.by_start.same_settings index n at)) ∙ is)

      founding_base : (entry : Entry) → entry.author ≡ me_of n → IsFounding n.membership entry.effects → IsFoundation r entry (known n).version
      founding_base entry author f = record {
        index = index;
        node = n;
        at = at;
        author = sym author;
        founder = f.0;
        number = f.2.0;
        rises = subst (λ u. Contains entry.effects (Rise u Up f.2.0)) (sym author) f.2.1;
        joining = subst (λ u. IsMemberWith (view r.world.history (known n).version).standings u Joining) (sym author)
            (subst (λ (v : View). IsMemberWith v.standings (me_of n) Joining) n_shown (joining_member (known n).view.standings (me_of n) f.1));
      }

      cause_may : (entry : Entry) → entry.author ≡ me_of n → (x : Effect) → IsCause (given_by e) n.membership entry.effects x → MayDo r size settings.role entry (known n).version x
      cause_may entry author (Joined who) cause = tt
      cause_may entry author (Rise who Joining number) cause = cause.1
      cause_may entry author (Rise who WeaklyUp number) cause = tt
      cause_may entry author (Rise who Up number) cause = (is_named who cause.0, elim cause.1.1 [ inl f ↦ inl (founding_base entry author f) | inr is ↦ inr (settled_base is) ])
      cause_may entry author (Rise who Leaving number) cause =
          let h = status_of is_up (member_of (map.get (known n).view.standings who)) cause.1 in
          up_rose r.world.history (known n).version who h.0.1 (ap (λ (v : View). member_of (map.get v.standings who)) (sym n_shown) ∙ h.1 ∙ ap (λ status. Some (status, h.0.1)) (up_is h.0.0 h.2))
      cause_may entry author (Rise who Exiting number) cause = tt
      cause_may entry author (Rise who Down number) cause = tt
      cause_may entry author (Removed who confirmed) cause = tt
      cause_may entry author (Observed subjects) cause = tt

      may_next : (entry : Entry) (base : Counts) (x : Effect) → Contains s.based (entry, base) → Contains entry.effects x → MayDo s size settings.role entry base x
      may_next entry base x there has_it = elim (old_or_update (me_of n) (known n).version r.based (step_changes e n runs).knowledge entry base (subst (λ b. Contains b (entry, base)) based_is there)) [
        | inl old ↦ may_then r s grows founders size settings.role entry base x (base_bounded entry base old) (k.may entry base x old has_it)
        | inr new ↦
            let lawful : IsLawful (given_by e) n.membership (Updates entry.effects) = subst (IsLawful (given_by e) n.membership) new.updates (step_changes e n runs).lawful in
            subst (λ b. MayDo s size settings.role entry b x) (sym new.from)
            (may_then r s grows founders size settings.role entry (known n).version x (k.basis.processes.sound.each index n at).fold.bounded (cause_may entry new.author x (lawful.1 x has_it)))
      ]

      pub raised_by_step : Raised settings s
      raised_by_step = record { basis = next; bounded = bounded_next; no_foresight = foresight_next; may = may_next }
