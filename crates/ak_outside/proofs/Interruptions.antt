-- What tries that were interrupted leave of the known bytes, where an error leaves them.
use Rattle.std.proofs.Common.{ℕ, ◌≤◌, min, List, ◌++◌, length, Option, Some, None, Result, Ok, Err, MatchOption, arith, length-take, take-take, subst, sym, ap, ◌∙◌, inl, inr}
use Rattle.std.proofs.lemmas.Fn.{chained_keeps}
use Rattle.std.proofs.KnownBytes.{Keeps-refl, Keeps-trans}
use Rattle.std.specs.Io.KnownBytes.{Keeps, Consumes, Appends}
use Rattle.std.specs.List.{FoldsTo}
use Rattle.std.specs.declared.io.Error.{Error}
use Rattle.ak_outside.specs.Reads.{reader_gives, ReadsSome}
use Rattle.ak_outside.specs.Writes.{writer_gives, WritesSome}
use Rattle.ak_outside.specs.Tries.{InterruptedCall, Settles}

interrupted_keeps : {S : Type 0} (gives : S → Result ℕ Error → S → Type 0) (known : S → Option (List ℕ))
    → ((s : S) (e : Error) (t : S) → gives s (Err e) t → Keeps (known s) (known t))
    → (errors : List Error) (old new : S) → FoldsTo (InterruptedCall gives) old errors new → Keeps (known old) (known new)
interrupted_keeps {S} gives known keeps errors old new calls =
    chained_keeps (InterruptedCall gives) (λ (xs : List Error) (s : S). Keeps (known old) (known s))
    (λ xs s e t kept call. Keeps-trans (known old) (known s) (known t) kept (keeps s e t call.0)) errors old new (Keeps-refl (known old)) calls

-- a failure leaves the known bytes; a count is that of a call before which they are as they were
Settles-known : {S : Type 0} (gives : S → Result ℕ Error → S → Type 0) (known : S → Option (List ℕ))
    → ((s : S) (e : Error) (t : S) → gives s (Err e) t → Keeps (known s) (known t))
    → (old : S) (answer : Option ℕ) (new : S) → Settles gives old answer new
    → MatchOption answer (Keeps (known old) (known new)) (λ n. (s : S) × Keeps (known old) (known s) × gives s (Ok n) new)
Settles-known gives known keeps old (Some n) new f =
    (f.before, interrupted_keeps gives known keeps f.errors old f.before f.interrupted, f.last)
Settles-known gives known keeps old None new f =
    let before = interrupted_keeps gives known keeps f.errors old f.before f.interrupted in
    elim f.last [
      | inl failed ↦ Keeps-trans (known old) (known f.before) (known new) before (keeps f.before failed.0 new failed.1)
      | inr spent ↦ subst (λ s. Keeps (known old) (known s)) (sym spent.1) before
    ]

Keeps-consumes : (a b c : Option (List ℕ)) (bs : List ℕ) → Keeps a b → Consumes b c bs → Consumes a c bs
Keeps-consumes None b c bs p q = tt
Keeps-consumes (Some x) None c bs p q = absurd p
Keeps-consumes (Some x) (Some y) None bs p q = absurd q
Keeps-consumes (Some x) (Some y) (Some z) bs p q = sym p ∙ q

Keeps-appends : (a b c : Option (List ℕ)) (bs : List ℕ) → Keeps a b → Appends b c bs → Appends a c bs
Keeps-appends None b c bs p q = tt
Keeps-appends (Some x) None c bs p q = absurd p
Keeps-appends (Some x) (Some y) None bs p q = absurd q
Keeps-appends (Some x) (Some y) (Some z) bs p q = q ∙ ap (λ l. l ++ bs) p

-- what a reader that is tried again gives
pub Settles-reads : {S : Type 0} (known : S → Option (List ℕ)) (scratch : S → List ℕ) (room : ℕ) (old : S) (answer : Option ℕ) (new : S)
    → Settles (reader_gives known scratch room) old answer new
    → ReadsSome (known old) (known new) answer room (scratch new)
Settles-reads known scratch room old (Some n) new f =
    let h = Settles-known (reader_gives known scratch room) known (λ s e t call. call.1) old (Some n) new f in
    let within : n ≤ min room (length (scratch new)) = omega (arith, length-take room (scratch new), h.2.0) in (
      within,
      subst (Consumes (known old) (known new)) (take-take n room (scratch new) (omega (arith, within))) (Keeps-consumes (known old) (known h.0) (known new) _ h.1 h.2.1.0),
      λ none rooms. h.2.1.1 none (omega (arith, length-take room (scratch new))),
    )
Settles-reads known scratch room old None new f =
    Settles-known (reader_gives known scratch room) known (λ s e t call. call.1) old None new f

-- what a writer that is tried again takes
pub Settles-writes : {S : Type 0} (known : S → Option (List ℕ)) (piece : List ℕ) (old : S) (answer : Option ℕ) (new : S)
    → Settles (writer_gives known piece) old answer new
    → WritesSome (known old) (known new) answer piece
Settles-writes known piece old (Some n) new f =
    let h = Settles-known (writer_gives known piece) known (λ s e t call. call.2) old (Some n) new f in
    (h.2.0, h.2.1, Keeps-appends (known old) (known h.0) (known new) _ h.1 h.2.2)
Settles-writes known piece old None new f =
    Settles-known (writer_gives known piece) known (λ s e t call. call.2) old None new f
