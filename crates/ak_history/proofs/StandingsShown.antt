-- What a version shows of a process: what the covered entries did to it.
use Rattle.std.proofs.Common.{◌≡◌, ◌≢◌, ℕ, ◌≤◌, min, leb, nat_lt, ◌==◌, Bool, true, false, if◌then◌else◌, ◌⊎◌, ◌↔◌, inl, inr, List, [], ◌∷◌, Contains, Option, None, Some, refl, sym, ap, ◌∙◌, subst, arith, true≢false}
use Rattle.std.proofs.lemmas.Bool.{leb-true, leb-false, ltb-true, ltb-false}
use Rattle.std.proofs.lemmas.Bool.Decides.{eqb_tells}
use Rattle.std.specs.FinMap as map
use Rattle.ak_address.specs.Unique.{UniqueModel}
use Rattle.ak_address.specs.Table.{value_with}
use Rattle.ak_address.proofs.TableLaws.{same_or_apart, get-empty}
use Rattle.ak_clock.specs.Version.{Counts}
use Rattle.ak_member.specs.declared.status.Status.{Status}
use Rattle.ak_member.specs.declared.status.Status.TheVariants.{Joining, WeaklyUp, Up, Leaving, Exiting, Down}
use Rattle.ak_member.specs.declared.standing.Standing.{Standing}
use Rattle.ak_member.specs.declared.standing.Standing.TheVariants.{Member, Buried}
use Rattle.ak_member.specs.declared.effect.Effect.{Effect}
use Rattle.ak_member.specs.declared.effect.Effect.TheVariants.{Joined, Rise, Removed, Observed}
use Rattle.ak_member.specs.Standing.{Standings, rank, greater_status, older_number, merged_standing}
use Rattle.ak_member.specs.View.{after_effect, after_effects, after_entry}
use Rattle.ak_member.proofs.StandingLaws.{same_rank}
use Rattle.ak_member.proofs.ViewLaws.{get-known_here, get-known_elsewhere}
use Rattle.ak_history.specs.declared.entry.Entry.{Entry}
use Rattle.ak_history.specs.History.{is_covered, view}
use Rattle.ak_history.specs.Shown.{Did, IsGreatest, IsLeast, Stands}
use Rattle.ak_history.proofs.Covering.{did_later}
use Rattle.ak_address.proofs.Elements.{contains_rest, contains_nothing, first_or_rest, contains_first}

-- ---- what stands after some effects, said of the effects that were done
abbrev NamedBy : (Effect → Type 0) → UniqueModel → Type 0
NamedBy did who = did (Joined who) ⊎ ((status : Status) × (number : ℕ) × did (Rise who status number))

abbrev RemovedBy : (Effect → Type 0) → UniqueModel → Type 0
RemovedBy did who = did (Removed who true) ⊎ did (Removed who false)

record GreatestBy (did : Effect → Type 0) (who : UniqueModel) (status : Status) : Type 0 where
  pub reached : (status ≡ Joining) ⊎ ((number : ℕ) × did (Rise who status number))
  pub greatest : (other : Status) (number : ℕ) → did (Rise who other number) → rank other ≤ rank status

record LeastBy (did : Effect → Type 0) (who : UniqueModel) (number : ℕ) : Type 0 where
  pub reached : (number ≡ 0) ⊎ ((status : Status) × did (Rise who status number))
  pub least : (status : Status) (other : ℕ) → did (Rise who status other) → (other ≡ 0) ⊎ ((1 ≤ number) × (number ≤ other))

abbrev StandsBy : (Effect → Type 0) → UniqueModel → Option Standing → Type 0
StandsBy did who None = (NamedBy did who → ⊥) × (RemovedBy did who → ⊥)
StandsBy did who (Some (Buried confirmed)) = RemovedBy did who × ((confirmed ≡ true) ↔ did (Removed who true))
StandsBy did who (Some (Member status number)) = NamedBy did who × (RemovedBy did who → ⊥) × GreatestBy did who status × LeastBy did who number

-- ---- effects that say the same of a process
record Alike (before after : Effect → Type 0) (who : UniqueModel) : Type 0 where
  pub joined : after (Joined who) ↔ before (Joined who)
  pub rose : (status : Status) (number : ℕ) → after (Rise who status number) ↔ before (Rise who status number)
  pub removed : (confirmed : Bool) → after (Removed who confirmed) ↔ before (Removed who confirmed)

module _ (before after : Effect → Type 0) (who : UniqueModel) where
  removed_kept : ((c : Bool) → before (Removed who c) → after (Removed who c)) → RemovedBy before who → RemovedBy after who
  removed_kept was (inl d) = inl (was true d)
  removed_kept was (inr d) = inr (was false d)

  removed_back : ((c : Bool) → after (Removed who c) → before (Removed who c)) → RemovedBy after who → RemovedBy before who
  removed_back back (inl d) = inl (back true d)
  removed_back back (inr d) = inr (back false d)

  named_kept : (before (Joined who) → after (Joined who)) → ((s : Status) (n : ℕ) → before (Rise who s n) → after (Rise who s n)) → NamedBy before who → NamedBy after who
  named_kept joined rose (inl d) = inl (joined d)
  named_kept joined rose (inr d) = inr (d.0, d.1, rose d.0 d.1 d.2)

  named_back : (after (Joined who) → before (Joined who)) → ((s : Status) (n : ℕ) → after (Rise who s n) → before (Rise who s n)) → NamedBy after who → NamedBy before who
  named_back joined rose (inl d) = inl (joined d)
  named_back joined rose (inr d) = inr (d.0, d.1, rose d.0 d.1 d.2)

  module _ (was : (s : Status) (n : ℕ) → before (Rise who s n) → after (Rise who s n)) (back : (s : Status) (n : ℕ) → after (Rise who s n) → before (Rise who s n)) where
    greatest_kept : (status : Status) → GreatestBy before who status → GreatestBy after who status
    greatest_kept status g = record {
      reached = elim g.reached [ inl is ↦ inl is | inr d ↦ inr (d.0, was status d.0 d.1) ];
      greatest = λ other number rose. g.greatest other number (back other number rose);
    }

    least_kept : (number : ℕ) → LeastBy before who number → LeastBy after who number
    least_kept number l = record {
      reached = elim l.reached [ inl is ↦ inl is | inr d ↦ inr (d.0, was d.0 number d.1) ];
      least = λ status other rose. l.least status other (back status other rose);
    }

  stands_alike : (o : Option Standing) → Alike before after who → StandsBy before who o → StandsBy after who o
  stands_alike None a (unnamed, unremoved) =
      (λ named. unnamed (named_back a.joined.0 (λ s n. (a.rose s n).0) named), λ removed. unremoved (removed_back (λ c. (a.removed c).0) removed))
  stands_alike (Some (Buried confirmed)) a (removed, is) =
      (removed_kept (λ c. (a.removed c).1) removed, (λ done. (a.removed true).1 (is.0 done), λ d. is.1 ((a.removed true).0 d)))
  stands_alike (Some (Member status number)) a (named, unremoved, greatest, least) = (
    named_kept a.joined.1 (λ s n. (a.rose s n).1) named,
    λ removed. unremoved (removed_back (λ c. (a.removed c).0) removed),
    greatest_kept (λ s n. (a.rose s n).1) (λ s n. (a.rose s n).0) status greatest,
    least_kept (λ s n. (a.rose s n).1) (λ s n. (a.rose s n).0) number least,
  )

-- ---- one effect more
record More (before after : Effect → Type 0) (e : Effect) : Type 0 where
  pub here : after e
  pub was : (x : Effect) → before x → after x
  pub back : (x : Effect) → after x → (x ≡ e) ⊎ before x

-- which kind of effect, and what it says
abbrev kind : Effect → ℕ
kind (Joined who) = 0
kind (Rise who status number) = 1
kind (Removed who confirmed) = 2
kind (Observed subjects) = 3

abbrev status_in : Effect → Status
status_in (Joined who) = Joining
status_in (Rise who status number) = status
status_in (Removed who confirmed) = Joining
status_in (Observed subjects) = Joining

abbrev number_in : Effect → ℕ
number_in (Joined who) = 0
number_in (Rise who status number) = number
number_in (Removed who confirmed) = 0
number_in (Observed subjects) = 0

abbrev confirmed_in : Effect → Bool
confirmed_in (Joined who) = false
confirmed_in (Rise who status number) = false
confirmed_in (Removed who confirmed) = confirmed
confirmed_in (Observed subjects) = false

-- an effect says nothing of a process
abbrev IsApart : UniqueModel → Effect → Type 0
IsApart who (Joined other) = who ≢ other
IsApart who (Rise other status number) = who ≢ other
IsApart who (Removed other confirmed) = who ≢ other
IsApart who (Observed subjects) = Unit {0}

module _ (before after : Effect → Type 0) (e : Effect) (m : More before after e) where
  old : (x : Effect) → x ≢ e → after x → before x
  old x never h = elim (m.back x h) [ inl is ↦ absurd (never is) | inr d ↦ d ]

  other_kind : (x : Effect) → kind x ≢ kind e → after x → before x
  other_kind x apart h = old x (λ is. apart (ap kind is)) h

  alike_apart : (who : UniqueModel) → IsApart who e → Alike before after who
  alike_apart who apart = record {
    joined = (old (Joined who) (λ is. (subst (IsApart who) (sym is) apart) refl), m.was (Joined who));
    rose = λ s n. (old (Rise who s n) (λ is. (subst (IsApart who) (sym is) apart) refl), m.was (Rise who s n));
    removed = λ c. (old (Removed who c) (λ is. (subst (IsApart who) (sym is) apart) refl), m.was (Removed who c));
  }

-- ---- a process joins
greater_joining : (s : Status) → greater_status s Joining ≡ s
greater_joining Joining = refl
greater_joining WeaklyUp = refl
greater_joining Up = refl
greater_joining Leaving = refl
greater_joining Exiting = refl
greater_joining Down = refl

joining_greater : (s : Status) → greater_status Joining s ≡ s
joining_greater Joining = refl
joining_greater WeaklyUp = refl
joining_greater Up = refl
joining_greater Leaving = refl
joining_greater Exiting = refl
joining_greater Down = refl

-- the number of two that is not 0, or the least
older_cases : (m n : ℕ) →
    ((m ≡ 0) × (older_number m n ≡ n))
    ⊎ (((1 ≤ m) × (n ≡ 0) × (older_number m n ≡ m))
    ⊎ ((1 ≤ m) × (1 ≤ n) × (older_number m n ≡ min m n)))
older_cases m n = elim (eqb_tells m 0) [
  | inl zeros ↦ inl (zeros.1, ap (λ b. if b then n else (if n == 0 then m else min m n)) zeros.0)
  | inr some ↦ elim (eqb_tells n 0) [
    | inl zeros ↦ inr (inl (let no = some.1 in omega arith, zeros.1, ap (λ b. if b then n else (if n == 0 then m else min m n)) some.0 ∙ ap (λ b. if b then m else min m n) zeros.0))
    | inr more ↦ inr (inr (let no = some.1 in omega arith, let no = more.1 in omega arith, ap (λ b. if b then n else (if n == 0 then m else min m n)) some.0 ∙ ap (λ b. if b then m else min m n) more.0))
  ]
]

older_zero : (n : ℕ) → older_number n 0 ≡ n
older_zero n = elim (older_cases n 0) [
  | inl zeros ↦ zeros.1 ∙ sym zeros.0
  | inr rest ↦ elim rest [ inl one ↦ one.2 | inr both ↦ let no = both.1 in absurd (omega arith) ]
]

min_of : (m n : ℕ) → (min m n ≡ m) ⊎ (min m n ≡ n)
min_of m n = by_test (leb m n) refl
  where
    by_test : (b : Bool) → leb m n ≡ b → (min m n ≡ m) ⊎ (min m n ≡ n)
    by_test true is = let le = leb-true m n is in inl (omega arith)
    by_test false is = let lt = leb-false m n is in inr (omega arith)

module _ (before after : Effect → Type 0) (who : UniqueModel) (m : More before after (Joined who)) where
  merged_here : (o : Option Standing) → StandsBy before who o → StandsBy after who (Some (value_with merged_standing o (Member Joining 0)))
  merged_here None (unnamed, unremoved) = (
    inl m.here,
    λ removed. unremoved (removed_back before after who (λ c. other_kind before after (Joined who) m (Removed who c) (λ is. omega arith)) removed),
    record { reached = inl refl; greatest = λ other n rose. absurd (unnamed (inr (other, n, back other n rose))) },
    record { reached = inl refl; least = λ s n rose. absurd (unnamed (inr (s, n, back s n rose))) },
  )
    where
      back : (s : Status) (n : ℕ) → after (Rise who s n) → before (Rise who s n)
      back s n rose = other_kind before after (Joined who) m (Rise who s n) (λ is. omega arith) rose
  merged_here (Some (Buried confirmed)) (removed, is) = (
    removed_kept before after who (λ c. m.was (Removed who c)) removed,
    (λ done. m.was (Removed who true) (is.0 done), λ d. is.1 (other_kind before after (Joined who) m (Removed who true) (λ is. omega arith) d)),
  )
  merged_here (Some (Member status number)) (named, unremoved, greatest, least) =
      let back : (s : Status) (n : ℕ) → after (Rise who s n) → before (Rise who s n) = λ s n. other_kind before after (Joined who) m (Rise who s n) (λ is. omega arith) in (
        inl m.here,
        λ removed. unremoved (removed_back before after who (λ c. other_kind before after (Joined who) m (Removed who c) (λ is. omega arith)) removed),
        subst (GreatestBy after who) (sym (greater_joining status)) (greatest_kept before after who (λ s n. m.was (Rise who s n)) back status greatest),
        subst (LeastBy after who) (sym (older_zero number)) (least_kept before after who (λ s n. m.was (Rise who s n)) back number least),
      )

-- ---- a member rises
module _ (before after : Effect → Type 0) (who : UniqueModel) (st : Status) (n : ℕ) (m : More before after (Rise who st n)) where
  greatest_more : (own : Status) → GreatestBy before who own → GreatestBy after who (greater_status own st)
  greatest_more own g = by_test (nat_lt (rank own) (rank st)) refl
    where
      by_test : (b : Bool) → nat_lt (rank own) (rank st) ≡ b → GreatestBy after who (if b then st else own)
      by_test true is = record {
        reached = inr (n, m.here);
        greatest = λ other number rose. elim (m.back (Rise who other number) rose) [
          | inl same ↦ let equal : rank other ≡ rank st = ap (λ x. rank (status_in x)) same in omega arith
          | inr d ↦ let less = ltb-true (rank own) (rank st) is in let most = g.greatest other number d in omega arith
        ];
      }
      by_test false is = record {
        reached = elim g.reached [ inl joining ↦ inl joining | inr d ↦ inr (d.0, m.was (Rise who own d.0) d.1) ];
        greatest = λ other number rose. elim (m.back (Rise who other number) rose) [
          | inl same ↦ let equal : rank other ≡ rank st = ap (λ x. rank (status_in x)) same in let most = ltb-false (rank own) (rank st) is in omega arith
          | inr d ↦ g.greatest other number d
        ];
      }

  same_number : (s : Status) (other : ℕ) → Rise who s other ≡ Rise who st n → other ≡ n
  same_number s other same = ap number_in same

  least_new : (own : ℕ) → LeastBy before who own → own ≡ 0 → LeastBy after who n
  least_new own l zeros = record {
    reached = inr (st, m.here);
    least = λ s other rose. elim (m.back (Rise who s other) rose) [
      | inl same ↦ elim (eqb_tells other 0) [
        | inl none ↦ inl none.1
        | inr some ↦ inr (let no = some.1 in let equal = same_number s other same in omega arith, let equal = same_number s other same in omega arith)
      ]
      | inr d ↦ elim (l.least s other d) [ inl none ↦ inl none | inr some ↦ let least = some.0 in absurd (omega arith) ]
    ];
  }

  least_own : (own : ℕ) → LeastBy before who own → n ≡ 0 → LeastBy after who own
  least_own own l zeros = record {
    reached = elim l.reached [ inl none ↦ inl none | inr d ↦ inr (d.0, m.was (Rise who d.0 own) d.1) ];
    least = λ s other rose. elim (m.back (Rise who s other) rose) [
      | inl same ↦ inl (same_number s other same ∙ zeros)
      | inr d ↦ l.least s other d
    ];
  }

  least_both : (own : ℕ) → LeastBy before who own → 1 ≤ own → 1 ≤ n → LeastBy after who (min own n)
  least_both own l some more = record {
    reached = elim (min_of own n) [
      | inl is ↦ elim l.reached [
        | inl none ↦ absurd (omega arith)
        | inr d ↦ inr (d.0, subst (λ k. after (Rise who d.0 k)) (sym is) (m.was (Rise who d.0 own) d.1))
      ]
      | inr is ↦ inr (st, subst (λ k. after (Rise who st k)) (sym is) m.here)
    ];
    least = λ s other rose. elim (m.back (Rise who s other) rose) [
      | inl same ↦ inr (omega arith, let equal = same_number s other same in omega arith)
      | inr d ↦ elim (l.least s other d) [
        | inl none ↦ inl none
        | inr below ↦ inr (omega arith, let le = below.1 in omega arith)
      ]
    ];
  }

  least_more : (own : ℕ) → LeastBy before who own → LeastBy after who (older_number own n)
  least_more own l = elim (older_cases own n) [
    | inl zeros ↦ subst (LeastBy after who) (sym zeros.1) (least_new own l zeros.0)
    | inr rest ↦ elim rest [
      | inl one ↦ subst (LeastBy after who) (sym one.2) (least_own own l one.1)
      | inr both ↦ subst (LeastBy after who) (sym both.2) (least_both own l both.0 both.1)
    ]
  ]

  removed_before : RemovedBy after who → RemovedBy before who
  removed_before removed = removed_back before after who (λ c. other_kind before after (Rise who st n) m (Removed who c) (λ is. omega arith)) removed

  rise_here : (o : Option Standing) → StandsBy before who o → StandsBy after who (Some (value_with merged_standing o (Member st n)))
  rise_here None (unnamed, unremoved) = (
    inr (st, n, m.here),
    λ removed. unremoved (removed_before removed),
    subst (GreatestBy after who) (joining_greater st) (greatest_more Joining (record { reached = inl refl; greatest = λ other k rose. absurd (unnamed (inr (other, k, rose))) })),
    least_new 0 (record { reached = inl refl; least = λ s k rose. absurd (unnamed (inr (s, k, rose))) }) refl,
  )
  rise_here (Some (Buried confirmed)) (removed, is) = (
    removed_kept before after who (λ c. m.was (Removed who c)) removed,
    (λ done. m.was (Removed who true) (is.0 done), λ d. is.1 (other_kind before after (Rise who st n) m (Removed who true) (λ is. omega arith) d)),
  )
  rise_here (Some (Member status number)) (named, unremoved, greatest, least) =
      (inr (st, n, m.here), λ removed. unremoved (removed_before removed), greatest_more status greatest, least_more number least)

-- ---- a process is removed
module _ (before after : Effect → Type 0) (who : UniqueModel) (confirmed : Bool) (m : More before after (Removed who confirmed)) where
  removed_by : (c : Bool) → after (Removed who c) → RemovedBy after who
  removed_by true d = inl d
  removed_by false d = inr d

  -- it is confirmed now, or it was before
  confirmed_back : after (Removed who true) → (confirmed ≡ true) ⊎ before (Removed who true)
  confirmed_back d = elim (m.back (Removed who true) d) [ inl same ↦ inl (sym (ap confirmed_in same)) | inr d ↦ inr d ]

  confirmed_here : confirmed ≡ true → after (Removed who true)
  confirmed_here done = subst (λ c. after (Removed who c)) done m.here

  first_removal : (RemovedBy before who → ⊥) → StandsBy after who (Some (Buried confirmed))
  first_removal unremoved = (
    removed_by confirmed m.here,
    (confirmed_here, λ d. elim (confirmed_back d) [ inl done ↦ done | inr d ↦ absurd (unremoved (inl d)) ]),
  )

  removed_here : (o : Option Standing) → StandsBy before who o → StandsBy after who (Some (value_with merged_standing o (Buried confirmed)))
  removed_here None (unnamed, unremoved) = first_removal unremoved
  removed_here (Some (Member status number)) (named, unremoved, greatest, least) = first_removal unremoved
  removed_here (Some (Buried true)) (removed, is) =
      (removed_by confirmed m.here, (λ done. m.was (Removed who true) (is.0 refl), λ d. refl))
  removed_here (Some (Buried false)) (removed, is) = (
    removed_by confirmed m.here,
    (confirmed_here, λ d. elim (confirmed_back d) [ inl done ↦ done | inr d ↦ absurd (true≢false (sym (is.1 d))) ]),
  )

-- ---- one effect, several, and a history
stands_after : (before after : Effect → Type 0) (e : Effect) (s : Standings) (who : UniqueModel) → More before after e → StandsBy before who (map.get s who) → StandsBy after who (map.get (after_effect e s) who)
stands_after before after (Joined other) s who m h = elim (same_or_apart who other) [
  | inl same ↦
      subst (StandsBy after who) (sym (ap (map.get (after_effect (Joined other) s)) same ∙ get-known_here s other (Member Joining 0)))
      (subst (λ k. StandsBy after who (Some (value_with merged_standing (map.get s k) (Member Joining 0)))) same
      (merged_here before after who (subst (λ k. More before after (Joined k)) (sym same) m) (map.get s who) h))
  | inr apart ↦ subst (StandsBy after who) (sym (get-known_elsewhere s other who (Member Joining 0) apart)) (stands_alike before after who (map.get s who) (alike_apart before after (Joined other) m who apart) h)
]
stands_after before after (Rise other st n) s who m h = elim (same_or_apart who other) [
  | inl same ↦
      subst (StandsBy after who) (sym (ap (map.get (after_effect (Rise other st n) s)) same ∙ get-known_here s other (Member st n)))
      (subst (λ k. StandsBy after who (Some (value_with merged_standing (map.get s k) (Member st n)))) same
      (rise_here before after who st n (subst (λ k. More before after (Rise k st n)) (sym same) m) (map.get s who) h))
  | inr apart ↦ subst (StandsBy after who) (sym (get-known_elsewhere s other who (Member st n) apart)) (stands_alike before after who (map.get s who) (alike_apart before after (Rise other st n) m who apart) h)
]
stands_after before after (Removed other c) s who m h = elim (same_or_apart who other) [
  | inl same ↦
      subst (StandsBy after who) (sym (ap (map.get (after_effect (Removed other c) s)) same ∙ get-known_here s other (Buried c)))
      (subst (λ k. StandsBy after who (Some (value_with merged_standing (map.get s k) (Buried c)))) same
      (removed_here before after who c (subst (λ k. More before after (Removed k c)) (sym same) m) (map.get s who) h))
  | inr apart ↦ subst (StandsBy after who) (sym (get-known_elsewhere s other who (Buried c) apart)) (stands_alike before after who (map.get s who) (alike_apart before after (Removed other c) m who apart) h)
]
stands_after before after (Observed subjects) s who m h = stands_alike before after who (map.get s who) (alike_apart before after (Observed subjects) m who tt) h

-- these effects are done, and what was done before
abbrev DoneWith : (Effect → Type 0) → List Effect → Effect → Type 0
DoneWith before effects x = before x ⊎ Contains effects x

stands_after_all : (before : Effect → Type 0) (effects : List Effect) (s : Standings) (who : UniqueModel) → StandsBy before who (map.get s who) → StandsBy (DoneWith before effects) who (map.get (after_effects effects s) who)
stands_after_all before [] s who h = stands_alike before (DoneWith before []) who (map.get s who) (record {
  joined = (nothing (Joined who), inl);
  rose = λ st n. (nothing (Rise who st n), inl);
  removed = λ c. (nothing (Removed who c), inl);
}) h
  where
    nothing : (x : Effect) → DoneWith before [] x → before x
    nothing x (inl d) = d
    nothing x (inr there) = absurd (contains_nothing x there)
stands_after_all before (e ∷ effects) s who h =
    stands_alike (DoneWith (DoneWith before (e ∷ [])) effects) (DoneWith before (e ∷ effects)) who (map.get (after_effects effects (after_effect e s)) who)
    (record { joined = (split (Joined who), whole (Joined who)); rose = λ st n. (split (Rise who st n), whole (Rise who st n)); removed = λ c. (split (Removed who c), whole (Removed who c)) })
    (stands_after_all (DoneWith before (e ∷ [])) effects (after_effect e s) who
    (stands_after before (DoneWith before (e ∷ [])) e s who (record { here = inr (contains_first e []); was = λ x d. inl d; back = one }) h))
  where
    one : (x : Effect) → DoneWith before (e ∷ []) x → (x ≡ e) ⊎ before x
    one x (inl d) = inr d
    one x (inr there) = elim (first_or_rest e x [] there) [ inl same ↦ inl same | inr none ↦ absurd (contains_nothing x none) ]

    split : (x : Effect) → DoneWith before (e ∷ effects) x → DoneWith (DoneWith before (e ∷ [])) effects x
    split x (inl d) = inl (inl d)
    split x (inr there) = elim (first_or_rest e x effects there) [
      | inl same ↦ inl (inr (subst (Contains (e ∷ [])) (sym same) (contains_first e [])))
      | inr rest ↦ inr rest
    ]

    whole : (x : Effect) → DoneWith (DoneWith before (e ∷ [])) effects x → DoneWith before (e ∷ effects) x
    whole x (inl (inl d)) = inl d
    whole x (inl (inr there)) = elim (first_or_rest e x [] there) [
      | inl same ↦ inr (subst (Contains (e ∷ effects)) (sym same) (contains_first e effects))
      | inr none ↦ absurd (contains_nothing x none)
    ]
    whole x (inr there) = inr (contains_rest e x effects there)

-- ---- a history
done_now : (e : Entry) (history : List Entry) (v : Counts) (x : Effect) → is_covered v e ≡ true → Contains e.effects x → Did (e ∷ history) v x
done_now e history v x covered there = record { entry = e; in_history = contains_first e history; covered = covered; does = there }

done_when : (e : Entry) (history : List Entry) (v : Counts) (x : Effect) → Did (e ∷ history) v x → Did history v x ⊎ ((is_covered v e ≡ true) × Contains e.effects x)
done_when e history v x d = elim (first_or_rest e d.entry history d.in_history) [
  | inl same ↦ inr (sym (ap (is_covered v) same) ∙ d.covered, subst (λ (n : Entry). Contains n.effects x) same d.does)
  | inr before ↦ inl (record { entry = d.entry; in_history = before; covered = d.covered; does = d.does })
]

by_cover : (b : Bool) (e : Entry) (history : List Entry) (v : Counts) (who : UniqueModel) → is_covered v e ≡ b
    → StandsBy (Did history v) who (map.get (view history v).standings who)
    → StandsBy (Did (e ∷ history) v) who (map.get (if b then after_entry e.author e.number e.effects (view history v) else view history v).standings who)
by_cover true e history v who covered before =
    stands_alike (DoneWith (Did history v) e.effects) (Did (e ∷ history) v) who _
    (record { joined = (split (Joined who), whole (Joined who)); rose = λ st n. (split (Rise who st n), whole (Rise who st n)); removed = λ c. (split (Removed who c), whole (Removed who c)) })
    (stands_after_all (Did history v) e.effects (view history v).standings who before)
  where
    split : (x : Effect) → Did (e ∷ history) v x → DoneWith (Did history v) e.effects x
    split x d = elim (done_when e history v x d) [ inl before ↦ inl before | inr now ↦ inr now.1 ]

    whole : (x : Effect) → DoneWith (Did history v) e.effects x → Did (e ∷ history) v x
    whole x (inl d) = did_later e history v x d
    whole x (inr there) = done_now e history v x covered there
by_cover false e history v who uncovered before =
    stands_alike (Did history v) (Did (e ∷ history) v) who _
    (record { joined = (back (Joined who), did_later e history v (Joined who)); rose = λ st n. (back (Rise who st n), did_later e history v (Rise who st n)); removed = λ c. (back (Removed who c), did_later e history v (Removed who c)) })
    before
  where
    back : (x : Effect) → Did (e ∷ history) v x → Did history v x
    back x d = elim (done_when e history v x d) [ inl before ↦ before | inr now ↦ absurd (true≢false (sym now.0 ∙ uncovered)) ]

stands_by : (history : List Entry) (v : Counts) (who : UniqueModel) → StandsBy (Did history v) who (map.get (view history v).standings who)
stands_by [] v who =
    subst (StandsBy (Did [] v) who) (sym (get-empty who)) (
      λ named. elim named [ inl d ↦ contains_nothing d.entry d.in_history | inr d ↦ let e = d.2 in contains_nothing e.entry e.in_history ],
      λ removed. elim removed [ inl d ↦ contains_nothing d.entry d.in_history | inr d ↦ contains_nothing d.entry d.in_history ],
    )
stands_by (e ∷ history) v who = by_cover (is_covered v e) e history v who refl (stands_by history v who)

-- in the words of the law
in_words : (history : List Entry) (v : Counts) (who : UniqueModel) (o : Option Standing) → StandsBy (Did history v) who o → Stands history v who o
in_words history v who None h = h
in_words history v who (Some (Buried confirmed)) h = h
in_words history v who (Some (Member status number)) (named, unremoved, greatest, least) =
    (named, unremoved, record { reached = greatest.reached; greatest = greatest.greatest }, record { reached = least.reached; least = least.least })

pub standings_shown : (history : List Entry) (v : Counts) (who : UniqueModel) → Stands history v who (map.get (view history v).standings who)
standings_shown history v who = in_words history v who (map.get (view history v).standings who) (stands_by history v who)

-- ---- one standing alone is what the words allow
least_rank : (s : Status) → 1 ≤ rank s
least_rank Joining = omega arith
least_rank WeaklyUp = omega arith
least_rank Up = omega arith
least_rank Leaving = omega arith
least_rank Exiting = omega arith
least_rank Down = omega arith

module _ (history : List Entry) (v : Counts) (who : UniqueModel) where
  rank_below : (s t : Status) → IsGreatest history v who s → IsGreatest history v who t → rank s ≤ rank t
  rank_below s t g h = elim g.reached [
    | inl joining ↦ let first : rank s ≡ 1 = ap rank joining in let least = least_rank t in omega arith
    | inr rose ↦ h.greatest s rose.0 rose.1
  ]

  number_above : (m n : ℕ) → IsLeast history v who m → IsLeast history v who n → (m ≡ 0) ⊎ ((1 ≤ n) × (n ≤ m))
  number_above m n k l = elim k.reached [ inl none ↦ inl none | inr rose ↦ l.least rose.0 m rose.1 ]

  one_number : (m n : ℕ) → IsLeast history v who m → IsLeast history v who n → m ≡ n
  one_number m n k l = elim (number_above m n k l) [
    | inl none ↦ elim (number_above n m l k) [ inl zeros ↦ omega arith | inr some ↦ let le = some.0 in absurd (omega arith) ]
    | inr above ↦ elim (number_above n m l k) [
      | inl zeros ↦ let le = above.0 in absurd (omega arith)
      | inr below ↦ let le = above.1 in let ge = below.1 in omega arith
    ]
  ]

  pub one_standing : (one other : Option Standing) → Stands history v who one → Stands history v who other → one ≡ other
  one_standing None None h k = refl
  one_standing None (Some (Member s n)) h k = absurd (h.0 k.0)
  one_standing None (Some (Buried c)) h k = absurd (h.1 k.0)
  one_standing (Some (Member s n)) None h k = absurd (k.0 h.0)
  one_standing (Some (Buried c)) None h k = absurd (k.1 h.0)
  one_standing (Some (Member s m)) (Some (Member t n)) h k =
      let below = rank_below s t h.2 k.2 in
      let above = rank_below t s k.2 h.2 in
      let status : s ≡ t = same_rank s t (omega arith) in
      let number : m ≡ n = one_number m n h.3 k.3 in
      λ i. Some (Member (status i) (number i))
  one_standing (Some (Member s n)) (Some (Buried c)) h k = absurd (h.1 k.0)
  one_standing (Some (Buried c)) (Some (Member s n)) h k = absurd (k.1 h.0)
  one_standing (Some (Buried true)) (Some (Buried true)) h k = refl
  one_standing (Some (Buried true)) (Some (Buried false)) h k = absurd (true≢false (sym (k.1.1 (h.1.0 refl))))
  one_standing (Some (Buried false)) (Some (Buried true)) h k = absurd (true≢false (sym (h.1.1 (k.1.0 refl))))
  one_standing (Some (Buried false)) (Some (Buried false)) h k = refl
