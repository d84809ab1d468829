-- Who has aged by a version is shown by it as more than Joining, or as a tombstone; and back.
use Rattle.std.proofs.Common.{◌≡◌, ◌≢◌, ℕ, ◌≤◌, ◌⊎◌, inl, inr, List, Option, Some, None, is_some, IsSome, Contains, refl, sym, ap, ◌∙◌, subst, arith, true≢false}
use Rattle.std.proofs.lemmas.Option.{same_Some}
use Rattle.std.specs.FinMap as map
use Rattle.ak_address.specs.Unique.{UniqueModel}
use Rattle.ak_clock.specs.Version.{Counts}
use Rattle.ak_member.specs.declared.effect.Effect.TheVariants.{Rise}
use Rattle.ak_member.specs.declared.status.Status.{Status}
use Rattle.ak_member.specs.declared.status.Status.TheVariants.{Joining, WeaklyUp, Up, Leaving, Exiting, Down}
use Rattle.ak_member.specs.declared.standing.Standing.{Standing}
use Rattle.ak_member.specs.declared.standing.Standing.TheVariants.{Member, Buried}
use Rattle.ak_member.specs.Standing.{rank, member_of, tombstone_of}
use Rattle.ak_history.specs.declared.entry.Entry.{Entry}
use Rattle.ak_history.specs.History.{view}
use Rattle.ak_history.specs.Shown.{IsRemoved, Stands}
use Rattle.ak_history.proofs.StandingsShown.{standings_shown}
use Rattle.ak_world.specs.RunLine.{IsAged}

-- no entry raises anybody to Joining
abbrev pub RaisesAbove : List Entry → Type 0
RaisesAbove history = (entry : Entry) (who : UniqueModel) (number : ℕ) → Contains history entry → Contains entry.effects (Rise who Joining number) → ⊥

-- what is shown of an aged one
abbrev pub ShowsAged : Option Standing → Type 0
ShowsAged o = IsSome (tombstone_of o) ⊎ ((status : Status) × (number : ℕ) × (member_of o ≡ Some (status, number)) × (status ≢ Joining))

rank_above : (s t : Status) → s ≢ Joining → rank s ≤ rank t → t ≢ Joining
rank_above Joining t apart below is = apart refl
rank_above WeaklyUp t apart below is = let least : rank t ≡ 1 = ap rank is in omega arith
rank_above Up t apart below is = let least : rank t ≡ 1 = ap rank is in omega arith
rank_above Leaving t apart below is = let least : rank t ≡ 1 = ap rank is in omega arith
rank_above Exiting t apart below is = let least : rank t ≡ 1 = ap rank is in omega arith
rank_above Down t apart below is = let least : rank t ≡ 1 = ap rank is in omega arith

module _ (history : List Entry) (v : Counts) (who : UniqueModel) where
  abbrev shown : Option Standing
  shown = map.get (view history v).standings who

  -- a member that is more than Joining has aged
  risen_if : (o : Option Standing) → Stands history v who o → (status : Status) (number : ℕ) → member_of o ≡ Some (status, number) → status ≢ Joining → IsAged history v who
  risen_if None stands status number is apart = absurd (true≢false (sym (ap is_some is)))
  risen_if (Some (Buried confirmed)) stands status number is apart = absurd (true≢false (sym (ap is_some is)))
  risen_if (Some (Member own up)) stands status number is apart = elim stands.2.reached [
    | inl joining ↦ absurd (apart (sym (ap (λ (m : Status × ℕ). m.0) (same_Some (own, up) (status, number) is)) ∙ joining))
    | inr rose ↦ inl (own, rose.0, rose.1)
  ]

  pub risen_aged : (status : Status) (number : ℕ) → member_of shown ≡ Some (status, number) → status ≢ Joining → IsAged history v who
  risen_aged = risen_if shown (standings_shown history v who)

  -- a member was not removed
  kept_if : (o : Option Standing) → Stands history v who o → (m : Status × ℕ) → member_of o ≡ Some m → IsRemoved history v who → ⊥
  kept_if None stands m is removed = true≢false (sym (ap is_some is))
  kept_if (Some (Buried confirmed)) stands m is removed = true≢false (sym (ap is_some is))
  kept_if (Some (Member own up)) stands m is removed = stands.1 removed

  pub member_not_removed : (m : Status × ℕ) → member_of shown ≡ Some m → IsRemoved history v who → ⊥
  member_not_removed = kept_if shown (standings_shown history v who)

  -- who was removed is a tombstone
  buried_if : (o : Option Standing) → Stands history v who o → IsRemoved history v who → IsSome (tombstone_of o)
  buried_if None stands removed = absurd (stands.1 removed)
  buried_if (Some (Member own up)) stands removed = absurd (stands.1 removed)
  buried_if (Some (Buried confirmed)) stands removed = refl

  pub removed_shown : IsRemoved history v who → IsSome (tombstone_of shown)
  removed_shown = buried_if shown (standings_shown history v who)

  -- who has aged is shown so
  rose_if : RaisesAbove history → (o : Option Standing) → Stands history v who o → IsAged history v who → ShowsAged o
  rose_if above o stands (inr removed) = inl (buried_if o stands removed)
  rose_if above None stands (inl rose) = absurd (stands.0 (inr rose))
  rose_if above (Some (Buried confirmed)) stands (inl rose) = inl refl
  rose_if above (Some (Member own up)) stands (inl rose) =
      let apart : rose.0 ≢ Joining = λ is. above rose.2.entry who rose.1 rose.2.in_history (subst (λ s. Contains rose.2.entry.effects (Rise who s rose.1)) is rose.2.does) in
      inr (own, up, refl, rank_above rose.0 own apart (stands.2.greatest rose.0 rose.1 rose.2))

  pub aged_shown : RaisesAbove history → IsAged history v who → ShowsAged shown
  aged_shown above = rose_if above shown (standings_shown history v who)
