-- Which lines are the next header.
use Rattle.std.proofs.Common.{◌≡◌, ◌≤◌, ◌<◌, ℕ, zero, suc, ◌+◌, List, [], ◌∷◌, inl, inr, Err, length, subst, refl, sym, ap, ◌∙◌, arith}
use Rattle.std.proofs.lemmas.Option.{same_Some}
use Rattle.std.specs.Prelude.{Some, slice_get, codes}
use Rattle.ak_schedule.specs.declared.draft.Extra.{Extra}
use Rattle.ak_schedule.specs.declared.draft.Extra.TheVariants.{Weakly, Role, Types}
use Rattle.ak_schedule.specs.declared.draft.Header.{Header}
use Rattle.ak_schedule.specs.declared.fault.LineFault.{LineFault}
use Rattle.ak_schedule.specs.declared.fault.LineFault.TheVariants.{Malformed, BadHeader, NoMemory}
use Rattle.ak_schedule.specs.Line.{words, most_bytes}
use Rattle.ak_schedule.specs.declared.draft.Header as header
use Rattle.ak_address.specs.Unique.{AddressModel}
use Rattle.ak_settings.specs.Settings.{SettingsModel, IsListing, IsRole}
use Rattle.ak_schedule.specs.Schedule.{headers, Sets, SetsExtra, SpellsOption, SpellsRole, SpellsTypes, NamesExtra, NamesList}
use Rattle.ak_schedule.specs.Draft.{Drafted, IsDraft, ReadsHeader, SetsNext, NextAnswers, ExtraAnswers, RefusesHeader, RefusesValue}

pub header_refused : (which : Header) (line : List ℕ) (old : Drafted) → slice_get headers old.read ≡ Some which → ((new : SettingsModel) → Sets which (words line) old.settings new → ⊥)
    → (next : Drafted) → ReadsHeader line old next → ⊥
header_refused which line old is none next read =
    let same : read.which ≡ which = cc (read.next, is) in
    none next.settings (subst (λ (h : Header). Sets h (words line) old.settings next.settings) same read.sets.words)

-- the line is the next header, and sets it
pub next_set : (k : ℕ) (which : Header) (line : List ℕ) (old new : Drafted) → old.read ≡ k → slice_get headers k ≡ Some which → length line ≤ most_bytes
    → Sets which (words line) old.settings new.settings → new.read ≡ old.read → new.extra ≡ old.extra → SetsNext line old new
next_set k which line old new at is short sets count same = record { which = which; next = ap (slice_get headers) at ∙ is; sets = record { short = short; words = sets }; count = count; same_extra = same }

-- no value makes the line the next header
pub next_refused : {T : Type 0} (P : T → Type 0) (k : ℕ) (which : Header) (line : List ℕ) (old : Drafted) (fault : LineFault) → old.read ≡ k → slice_get headers k ≡ Some which
    → RefusesHeader P fault → ((new : SettingsModel) → Sets which (words line) old.settings new → (t : T) × P t) → NextAnswers (Err fault) line old old
next_refused P k which line old Malformed at is none part = none
next_refused P k which line old BadHeader at is none part = (refl, header_refused which line old (ap (slice_get headers) at ∙ is) (λ new sets. none (part new sets).0 (part new sets).1))
next_refused P k which line old (NoMemory _) at is none part = absurd none

-- the same of the first header, which takes memory
pub first_refused : {T : Type 0} (P : T → Type 0) (which : Header) (line : List ℕ) (old : Drafted) (fault : LineFault) → old.read ≡ 0 → slice_get headers 0 ≡ Some which
    → RefusesValue P fault → ((new : SettingsModel) → Sets which (words line) old.settings new → (t : T) × P t) → NextAnswers (Err fault) line old old
first_refused P which line old Malformed at is none part = none
first_refused P which line old BadHeader at is none part = (refl, header_refused which line old (ap (slice_get headers) at ∙ is) (λ new sets. none (part new sets).0 (part new sets).1))
first_refused P which line old (NoMemory _) at is none part = (refl, at)

-- no value makes the line an optional header that may still come
pub extra_refused : {T : Type 0} (P : T → Type 0) (line : List ℕ) (old : Drafted) (fault : LineFault) → NamesExtra (words line) → RefusesHeader P fault
    → ((which : Extra) (next : SettingsModel) → SetsExtra which (words line) old.settings next → (t : T) × P t) → ExtraAnswers (Err fault) line old old
extra_refused P line old Malformed named none part = none
extra_refused P line old BadHeader named none part = (refl, named, λ next read. let it = part read.which next.settings read.sets.words in none it.0 it.1)
extra_refused P line old (NoMemory _) named none part = absurd none

-- an optional header with this first word sets its number
pub sets_weakly : (which : Extra) (ws rest : List (List ℕ)) (old new : SettingsModel) → ws ≡ codes "weakly" ∷ rest → SetsExtra which ws old new → (n : ℕ) × SpellsOption (codes "weakly") 1000000 ws n
sets_weakly Weakly ws rest old new named sets = (sets.0, sets.1)
sets_weakly Role ws rest old new named sets = let other : codes "weakly" ∷ rest ≡ codes "role" ∷ sets.1.0 = sym named ∙ sets.1.1 in absurd cc
sets_weakly Types ws rest old new named sets = let other : codes "weakly" ∷ rest ≡ codes "types" ∷ sets.0 = sym named ∙ sets.1.0 in absurd cc

names_extra : (ws : List (List ℕ)) → NamesList ws → NamesExtra ws
names_extra ws (rest, inl role) = (Role, rest, role)
names_extra ws (rest, inr types) = (Types, rest, types)

-- the same of one that takes memory
pub extra_value_refused : {T : Type 0} (P : T → Type 0) (line : List ℕ) (old : Drafted) (fault : LineFault) → NamesList (words line) → RefusesValue P fault
    → ((which : Extra) (next : SettingsModel) → SetsExtra which (words line) old.settings next → (t : T) × P t) → ExtraAnswers (Err fault) line old old
extra_value_refused P line old Malformed named none part = none
extra_value_refused P line old BadHeader named none part = (refl, names_extra (words line) named, λ next read. let it = part read.which next.settings read.sets.words in none it.0 it.1)
extra_value_refused P line old (NoMemory _) named none part = (refl, named)

pub sets_role : (which : Extra) (ws rest : List (List ℕ)) (old new : SettingsModel) → ws ≡ codes "role" ∷ rest → SetsExtra which ws old new → (role : List AddressModel) × SpellsRole ws old.listed role
sets_role Role ws rest old new named sets = (sets.0, sets.1)
sets_role Weakly ws rest old new named sets = let other : codes "role" ∷ rest ≡ codes "weakly" ∷ sets.1.0 ∷ [] = sym named ∙ sets.1.1 in absurd cc
sets_role Types ws rest old new named sets = let other : codes "role" ∷ rest ≡ codes "types" ∷ sets.0 = sym named ∙ sets.1.0 in absurd cc

pub sets_types : (which : Extra) (ws rest : List (List ℕ)) (old new : SettingsModel) → ws ≡ codes "types" ∷ rest → SetsExtra which ws old new → (types : List (List ℕ)) × SpellsTypes ws old.shards types
sets_types Types ws rest old new named sets = (sets.0, sets.1)
sets_types Weakly ws rest old new named sets = let other : codes "types" ∷ rest ≡ codes "weakly" ∷ sets.1.0 ∷ [] = sym named ∙ sets.1.1 in absurd cc
sets_types Role ws rest old new named sets = let other : codes "types" ∷ rest ≡ codes "role" ∷ sets.1.0 = sym named ∙ sets.1.1 in absurd cc

-- ---- a draft with one header more
-- the addresses are listed once the first header is read, and all of them have the role
first_sets : (line : List ℕ) (old new : Drafted) → SetsNext line old new → new.read ≡ 0 → IsListing new.settings.listed × IsRole new.settings.listed new.settings.role
first_sets line old new s none =
    let at : Some header.TheVariants.Listed ≡ Some s.which = ap (slice_get headers) (sym none ∙ s.count) ∙ s.next in
    let which : header.TheVariants.Listed ≡ s.which = same_Some header.TheVariants.Listed s.which at in
    let sets = subst (λ (h : Header). Sets h (words line) old.settings new.settings) (sym which) s.sets.words in
    let listing : IsListing sets.0 = sets.1.3 in
    subst (λ (x : SettingsModel). IsListing x.listed × IsRole x.listed x.role) (sym sets.2) (listing, record { listing = listing; among = λ a there. there })

both_then : (line : List ℕ) (old new : Drafted) → SetsNext line old new → IsDraft new → IsListing new.settings.listed × IsRole new.settings.listed new.settings.role
both_then line old new s is = by_read new.read refl
  where
    by_read : (k : ℕ) → new.read ≡ k → IsListing new.settings.listed × IsRole new.settings.listed new.settings.role
    by_read zero none = first_sets line old new s none
    by_read (suc k) some = (is.listed (omega (arith, some)), is.role (omega (arith, some)))

pub draft_counted : (line : List ℕ) (old new : Drafted) → SetsNext line old new → new.read < 9 → IsDraft new → IsDraft (record new { read = new.read + 1 })
draft_counted line old new s more is =
    let both = both_then line old new s is in
    record {
      count = omega (arith, more);
      extra = is.extra;
      listed = λ _. both.0;
      strategy = is.strategy;
      margin = is.margin;
      deadline = is.deadline;
      stable = is.stable;
      shards = is.shards;
      buffer = is.buffer;
      threshold = is.threshold;
      limit = is.limit;
      weakly = is.weakly;
      role = λ _. both.1;
      types = is.types;
    }
