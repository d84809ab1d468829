-- There is one founding, and each agreed version covers it; a counted member rose to Up in an entry that is covered.
use Rattle.std.proofs.Common.{◌≡◌, ℕ, zero, suc, ◌+◌, ◌<◌, ◌≤◌, true, ◌⊎◌, inl, inr, List, [], ◌∷◌, slice_get, Contains, IsTrue, refl, sym, ap, ◌∙◌, subst, arith, le-leb}
use Rattle.std.proofs.lemmas.Option.{same_Some}
use Rattle.std.proofs.lemmas.Bool.{lt-leb}
use Rattle.std.specs.Prelude as list
use Rattle.ak_address.specs.Distinct.{distinct}
use Rattle.ak_address.specs.Unique.{UniqueModel}
use Rattle.ak_address.proofs.Elements.{contains_first, in_filter, in_map}
use Rattle.ak_clock.specs.Version.{Counts, count, Covers}
use Rattle.ak_member.specs.declared.status.Status.TheVariants.{Up, Leaving}
use Rattle.ak_member.specs.declared.effect.Effect.TheVariants.{Rise}
use Rattle.ak_member.specs.Standing.{members_of}
use Rattle.ak_member.specs.Age.{IsCounted, counted_pairs, has_role, role_pairs, role_addresses}
use Rattle.ak_history.specs.declared.entry.Entry.{Entry}
use Rattle.ak_history.specs.History.{is_covered, view}
use Rattle.ak_history.specs.Shown.{Rose}
use Rattle.ak_history.proofs.HistoryLemmas.{one_entry}
use Rattle.ak_history.proofs.Covering.{did_more, covered_by_more, size, size_less}
use Rattle.ak_settings.specs.Settings.{SettingsModel, settling_size}
use Rattle.ak_node.specs.Node.{me_of}
use Rattle.ak_world.specs.Remembered.{Remembered, IsClosed}
use Rattle.ak_world.proofs.Agreed.{IsAgreed}
use Rattle.ak_world.proofs.Closed.{based_entry}
use Rattle.ak_node.proofs.CountedPairs.{counted_have}
use Rattle.ak_world.proofs.RaisedFor.{Raised, IsFoundation, MayUp}
use Rattle.ak_world.proofs.Rises.{counted_rose, joining_not_risen}

-- of two numbers one is less, or they are the same
pub either_way : (x y : ℕ) → (x < y) ⊎ ((y < x) ⊎ (x ≡ y))
either_way zero zero = inr (inr refl)
either_way zero (suc y) = inl (omega arith)
either_way (suc x) zero = inr (inl (omega arith))
either_way (suc x) (suc y) = elim (either_way x y) [ inl less ↦ inl (omega arith) | inr rest ↦ elim rest [ inl more ↦ inr (inl (omega arith)) | inr same ↦ inr (inr (ap suc same)) ] ]

module _ (settings : SettingsModel) (r : Remembered) (k : Raised settings r) where
  pub in_history : (entry : Entry) (base : Counts) → Contains r.based (entry, base) → Contains r.world.history entry
  in_history entry base there = subst (λ h. Contains h entry) k.basis.closing.entries (based_entry r.based entry base there)

  -- each entry was made from some version
  pub base_of : (entry : Entry) → Contains r.world.history entry → (base : Counts) × Contains r.based (entry, base)
  base_of entry there =
      let h = in_map (λ (pair : Entry × Counts). pair.0) r.based entry (subst (λ l. Contains l entry) (sym k.basis.closing.entries) there) in
      (h.0.1, subst (λ (x : Entry). Contains r.based (x, h.0.1)) (sym h.2) h.1)

  -- ---- one founding
  -- of two foundings by one author the later one would find its author risen
  not_earlier : (a b : Entry) (base_a base_b : Counts) → Contains r.based (a, base_a) → Contains r.based (b, base_b) → IsFoundation r a base_a → IsFoundation r b base_b → a.author ≡ b.author → a.number < b.number → ⊥
  not_earlier a b base_a base_b in_a in_b f g same lt =
      let count_b : count base_b b.author + 1 ≡ b.number = (k.basis.closing.at_bases b base_b in_b).2 in
      let count_a : count base_b a.author ≡ count base_b b.author = ap (count base_b) same in
      let covered : is_covered base_b a ≡ true = le-leb a.number (count base_b a.author) (omega arith) in
      let rose : Rose r.world.history base_b b.author Up f.number =
      record { entry = a; in_history = in_history a base_a in_a; covered = covered; does = subst (λ u. Contains a.effects (Rise u Up f.number)) same f.rises } in
      joining_not_risen r.world.history base_b b.author g.joining.0 g.joining.1 f.number rose

  pub one_founding : (a b : Entry) (base_a base_b : Counts) → Contains r.based (a, base_a) → Contains r.based (b, base_b) → IsFoundation r a base_a → IsFoundation r b base_b → a ≡ b
  one_founding a b base_a base_b in_a in_b f g =
      let index_is : f.index ≡ g.index = k.basis.one_founder.one f.index g.index f.node g.node f.at g.at f.founder g.founder in
      let node_is : f.node ≡ g.node = same_Some f.node g.node (sym f.at ∙ ap (slice_get r.world.nodes) index_is ∙ g.at) in
      let author_is : a.author ≡ b.author = sym f.author ∙ ap me_of node_is ∙ g.author in
      elim (either_way a.number b.number) [
        | inl less ↦ absurd (not_earlier a b base_a base_b in_a in_b f g author_is less)
        | inr rest ↦ elim rest [
          | inl more ↦ absurd (not_earlier b a base_b base_a in_b in_a g f (sym author_is) more)
          | inr same ↦ one_entry r.world.history a b k.basis.closing.sound.is_numbered (in_history a base_a in_a) (in_history b base_b in_b) author_is same
        ]
      ]

  -- ---- who counts rose
  -- a counted member of a closed version rose to Up in an entry that it covers
  pub counted_up : (v : Counts) → IsClosed r.based v → (who : UniqueModel) (number : ℕ) → IsCounted (view r.world.history v).standings who number → (up : ℕ) × Rose r.world.history v who Up up
  counted_up v closed who number c = elim (counted_rose r.world.history v who number c) [
    | inl up ↦ up
    | inr left ↦
        let d = left.1 in
        let b = base_of d.entry d.in_history in
        let was = k.may d.entry b.0 (Rise who Leaving left.0) b.1 d.does in
        (was.0, did_more r.world.history b.0 v (Rise who Up was.0) (closed d.entry b.0 b.1 d.covered) was.1)
  ]

  -- why it rose, with the version from which that entry was made
  pub record Risen (v : Counts) (who : UniqueModel) : Type 0 where
    pub entry : Entry
    pub base : Counts
    pub made_from : Contains r.based (entry, base)
    pub covered : IsTrue (is_covered v entry)
    pub up : ℕ
    pub does : Contains entry.effects (Rise who Up up)
    pub may : MayUp r (settling_size settings.strategy) settings.role entry base who
    pub under : Covers v base
    pub less : size r.world.history base < size r.world.history v

  pub risen : (v : Counts) → IsClosed r.based v → (who : UniqueModel) (number : ℕ) → IsCounted (view r.world.history v).standings who number → Risen v who
  risen v closed who number c =
      let up = counted_up v closed who number c in
      let d = up.1 in
      let b = base_of d.entry d.in_history in
      let under : Covers v b.0 = closed d.entry b.0 b.1 d.covered in
      let own : count b.0 d.entry.author + 1 ≡ d.entry.number = (k.basis.closing.at_bases d.entry b.0 b.1).2 in
      record {
        entry = d.entry;
        base = b.0;
        made_from = b.1;
        covered = d.covered;
        up = up.0;
        does = d.does;
        may = k.may d.entry b.0 (Rise who Up up.0) b.1 d.does;
        under = under;
        less = size_less r.world.history b.0 v d.entry under d.in_history d.covered (lt-leb d.entry.number (count b.0 d.entry.author) (omega arith));
      }

  -- ---- the founding is covered
  -- a view that counts an address counts a member
  some_counted : (v : Counts) → 1 ≤ distinct (role_addresses settings.role (view r.world.history v).standings) → (who : UniqueModel) × ((number : ℕ) × IsCounted (view r.world.history v).standings who number)
  some_counted v enough = by_pairs (role_pairs settings.role (members_of (view r.world.history v).standings)) refl enough
    where
      by_pairs : (pairs : List (UniqueModel × ℕ)) → role_pairs settings.role (members_of (view r.world.history v).standings) ≡ pairs → 1 ≤ distinct (list.map (λ pair. pair.0.address) pairs)
          → (who : UniqueModel) × ((number : ℕ) × IsCounted (view r.world.history v).standings who number)
      by_pairs [] is enough = absurd (omega arith)
      by_pairs (pair ∷ pairs) is enough = (pair.0, (pair.1, counted_have (view r.world.history v).standings pair (in_filter (has_role settings.role) (counted_pairs (members_of (view r.world.history v).standings)) pair (subst (λ l. Contains l pair) (sym is) (contains_first pair pairs))).0))

  pub record Founded (v : Counts) : Type 0 where
    pub entry : Entry
    pub base : Counts
    pub made_from : Contains r.based (entry, base)
    pub foundation : IsFoundation r entry base
    pub covered : IsTrue (is_covered v entry)

  founded_below : 1 ≤ settling_size settings.strategy → (n : ℕ) (v : Counts) → size r.world.history v < n → IsAgreed r (settling_size settings.strategy) settings.role v → Founded v
  founded_below some zero v lt a = absurd (omega arith)
  founded_below some (suc n) v lt a =
      let enough : settling_size settings.strategy ≤ distinct (role_addresses settings.role (view r.world.history v).standings) = a.enough in
      let one = some_counted v (omega arith) in
      let h = risen v a.closed one.0 one.1.0 one.1.1 in
      elim h.may.1 [
        | inl f ↦ record { entry = h.entry; base = h.base; made_from = h.made_from; foundation = f; covered = h.covered }
        | inr agreed ↦
            let less = h.less in
            let rest = founded_below some n h.base (omega arith) agreed in
            record { entry = rest.entry; base = rest.base; made_from = rest.made_from; foundation = rest.foundation; covered = covered_by_more h.base v rest.entry h.under rest.covered }
      ]

  pub founding_covered : 1 ≤ settling_size settings.strategy → (v : Counts) → IsAgreed r (settling_size settings.strategy) settings.role v → Founded v
  founding_covered some v a = founded_below some (suc (size r.world.history v)) v (omega arith) a
