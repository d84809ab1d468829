-- Bytes are a datagram or have a first fault.
use Rattle.std.proofs.Common.{◌≡◌, ◌⊎◌, inl, inr, ℕ, ◌≤◌, true, is_some, List, Option, Some, None, Result, Ok, Err, refl, sym, ap, subst, ◌∙◌, arith}
use Rattle.ak_address.proofs.Pairs.{not_None, same_Some}
use Rattle.ak_field.specs.declared.fault.WireFault.{WireFault}
use Rattle.ak_field.specs.declared.fault.WireFault.TheVariants.{Short, Magic, Version, Kind, Count, Order, Range, Trailing, NoMemory}
use Rattle.ak_field.specs.Reading.{fault_number, first_fault}
use Rattle.ak_field.specs.Fields.{header_at}
use Rattle.ak_field.specs.Laws.{IsBytes}
use Rattle.ak_field.proofs.Combined.{ok_is}
use Rattle.ak_wire.specs.declared.envelope.Envelope.{Envelope}
use Rattle.ak_wire.specs.Datagram.{SpellsIn, Spells}
use Rattle.ak_wire.specs.ReadingDatagram.{datagram_at, read}
use Rattle.ak_wire.specs.Laws.{FirstFault, IsDecided}
use Rattle.ak_wire.proofs.DatagramFields.{read_was, spelled_again}
use Rattle.ak_wire.proofs.Numbered.{read_numbered}

there : (o : Option ℕ) → is_some o ≡ true → (n : ℕ) × (o ≡ Some n)
there None e = absurd cc
there (Some n) e = (n, refl)

some_of : (m n : ℕ) → Some m ≡ Some n → m ≡ n
some_of m n same = same_Some m n same

of_eight : (fault : WireFault) (n : ℕ) → fault_number fault ≡ Some n → (1 ≤ n) × (n ≤ 8)
of_eight Short n e = subst (λ (k : ℕ). (1 ≤ k) × (k ≤ 8)) (some_of 1 n e) (omega arith, omega arith)
of_eight Magic n e = subst (λ (k : ℕ). (1 ≤ k) × (k ≤ 8)) (some_of 2 n e) (omega arith, omega arith)
of_eight Version n e = subst (λ (k : ℕ). (1 ≤ k) × (k ≤ 8)) (some_of 3 n e) (omega arith, omega arith)
of_eight Kind n e = subst (λ (k : ℕ). (1 ≤ k) × (k ≤ 8)) (some_of 4 n e) (omega arith, omega arith)
of_eight Count n e = subst (λ (k : ℕ). (1 ≤ k) × (k ≤ 8)) (some_of 5 n e) (omega arith, omega arith)
of_eight Order n e = subst (λ (k : ℕ). (1 ≤ k) × (k ≤ 8)) (some_of 6 n e) (omega arith, omega arith)
of_eight Range n e = subst (λ (k : ℕ). (1 ≤ k) × (k ≤ 8)) (some_of 7 n e) (omega arith, omega arith)
of_eight Trailing n e = subst (λ (k : ℕ). (1 ≤ k) × (k ≤ 8)) (some_of 8 n e) (omega arith, omega arith)
of_eight (NoMemory _) n e = absurd (not_None n (sym e))

numbered : {A : Type 0} (r : Result A WireFault) (n : ℕ) → first_fault r ≡ Some n → (1 ≤ n) × (n ≤ 8)
numbered (Ok x) n e = absurd (not_None n (sym e))
numbered (Err fault) n e = of_eight fault n e

decide : (bytes : List ℕ) (r : Result Envelope WireFault) → IsBytes bytes → read bytes ≡ r → ((e : Envelope) × Spells bytes e) ⊎ ((number : ℕ) × FirstFault bytes number)
decide bytes (Ok e) fits same = inl (e, read_was bytes e fits same)
decide bytes (Err fault) fits same = let n = there (fault_number fault) (read_numbered bytes fault same) in inr (n.0, ap first_fault same ∙ n.1)

pub decided : (bytes : List ℕ) → IsBytes bytes → IsDecided bytes
decided bytes fits = record {
  either = decide bytes (read bytes) fits refl;
  never_both = λ e n spells fault. not_None n (sym fault ∙ ap first_fault (spelled_again bytes e spells));
  one_envelope = λ d e spells too. ok_is d e (sym (spelled_again bytes d spells) ∙ spelled_again bytes e too);
  one_fault = λ m n fault too. some_of m n (sym fault ∙ too);
  of_eight = λ n fault. numbered (read bytes) n fault;
}

header_fault : (bytes : List ℕ) (r : Result ((ℕ × ℕ) × List ℕ) WireFault) → header_at bytes ≡ r → (n : ℕ) → first_fault r ≡ Some n → FirstFault bytes n
unfolding read datagram_at
header_fault bytes (Ok x) same n e = absurd (not_None n (sym e))
header_fault bytes (Err fault) same n e = rw same e

-- a fault of the header is the first fault of all
pub header_first : (bytes : List ℕ) (n : ℕ) → first_fault (header_at bytes) ≡ Some n → FirstFault bytes n
header_first bytes n e = header_fault bytes (header_at bytes) refl n e

pub one_spelling : (version : ℕ) (e : Envelope) (bytes other : List ℕ) → SpellsIn version bytes e → SpellsIn version other e → bytes ≡ other
one_spelling version e bytes other spells too = spells.is ∙ sym too.is
