-- Reading ends in no fault but one that has a number: that memory ran out is none of the bytes' faults.
use Rattle.std.proofs.Common.{◌≡◌, ℕ, zero, suc, ◌+◌, nat_le, Bool, true, false, is_some, List, [], ◌∷◌, Option, Some, None, length, if◌then◌else◌, ltb, Result, Ok, Err, refl, sym, subst, true≢false}
use Rattle.std.specs.Prelude.{⊤}
use Rattle.std.specs.Int.{Width, byte_len}
use Rattle.ak_address.specs.Unique.{UniqueModel}
use Rattle.ak_clock.specs.declared.version.TheConstants.{BOUND}
use Rattle.ak_gossip.specs.declared.part.Part.{Part}
use Rattle.ak_field.specs.declared.fault.WireFault.{WireFault}
use Rattle.ak_field.specs.declared.fault.WireFault.TheVariants.{Short, Magic, Version, Kind, Count, Order, Range, Trailing, NoMemory}
use Rattle.ak_field.specs.Reading.{◌>>=◌, bytes_at, byte_at, wide_at, checked, items_at, fault_number, IsThere}
use Rattle.ak_field.specs.Ranges.{most_entity}
use Rattle.ak_field.specs.Fields.{length_at, number_at, shard_at, flag_at, process_bytes_at, process_at, receiver_at, ballot_at, entity_at, header_at}
use Rattle.ak_field.specs.Lists.{next_unique_at, counted_at, counts_at, version_at, report_at, report_count_at, reports_at}
use Rattle.ak_field.specs.Parts.{state_at, up_number_at, seen_at, index_at, indices_at, subjects_at, part_at, parts_at}

-- what is read, or a fault that has a number
unfoldable pub IsNumbered : {A : Type 0} → Result A WireFault → Type 0
IsNumbered (Ok x) = ⊤
IsNumbered (Err fault) = is_some (fault_number fault) ≡ true

pub fine : {A : Type 0} (x : A) → IsNumbered (Ok x)
unfolding IsNumbered
fine x = tt

pub wrong : (A : Type 0) (fault : WireFault) → is_some (fault_number fault) ≡ true → IsNumbered {A = A} (Err fault)
unfolding IsNumbered
wrong A fault is = is

pub bind : {A B : Type 0} (r : Result A WireFault) (f : A → Result B WireFault) → IsNumbered r → ((x : A) → IsNumbered (f x)) → IsNumbered (r >>= f)
unfolding IsNumbered
bind (Ok x) f is after = after x
bind (Err fault) f is after = is

pub choose : {A : Type 0} (b : Bool) (x y : Result A WireFault) → IsNumbered x → IsNumbered y → IsNumbered (if b then x else y)
choose true x y p q = p
choose false x y p q = q

pub check : {A : Type 0} (own : WireFault) (passes : A → Bool) (r : Result (A × List ℕ) WireFault) → is_some (fault_number own) ≡ true → IsNumbered r → IsNumbered (checked own passes r)
unfolding IsNumbered
check {A} own passes (Ok x) numbered is = choose {A = A × List ℕ} (passes x.0) (Ok x) (Err own) tt numbered
check own passes (Err fault) numbered is = is

pub some_bytes : (width : ℕ) (bytes : List ℕ) → IsNumbered (bytes_at width bytes)
unfolding bytes_at
some_bytes width bytes = choose (ltb (length bytes) width) _ _ (wrong _ Short refl) (fine _)

pub one_byte : (bytes : List ℕ) → IsNumbered (byte_at bytes)
unfolding byte_at
one_byte [] = wrong _ Short refl
one_byte (byte ∷ rest) = fine _

pub wide : (w : Width) (bytes : List ℕ) → IsNumbered (wide_at w bytes)
unfolding wide_at
wide w bytes = bind (bytes_at (byte_len w) bytes) _ (some_bytes (byte_len w) bytes) (λ field. fine _)

pub items : {X : Type 0} (item : Option X → List ℕ → Result (X × List ℕ) WireFault) → ((last : Option X) (bytes : List ℕ) → IsNumbered (item last bytes)) → (last : Option X) (many : ℕ) (bytes : List ℕ) → IsNumbered (items_at item last many bytes)
unfolding items_at
items item each last zero bytes = fine _
items item each last (suc many) bytes = bind (item last bytes) _ (each last bytes) (λ first. bind (items_at item (Some first.0) many first.1) _ (items item each (Some first.0) many first.1) (λ others. fine _))

-- ---- fields
pub a_length : (least most : ℕ) (bytes : List ℕ) → IsNumbered (length_at least most bytes)
unfolding length_at
a_length least most bytes = check Count _ (byte_at bytes) refl (one_byte bytes)

pub a_number : (least most : ℕ) (bytes : List ℕ) → IsNumbered (number_at least most bytes)
unfolding number_at
a_number least most bytes = check Range _ (wide_at _ bytes) refl (wide _ bytes)

pub a_shard : (bytes : List ℕ) → IsNumbered (shard_at bytes)
unfolding shard_at
a_shard bytes = check Range _ (wide_at _ bytes) refl (wide _ bytes)

pub a_flag : (bytes : List ℕ) → IsNumbered (flag_at bytes)
unfolding flag_at
a_flag bytes = bind (checked Range (λ n. nat_le n 1) (byte_at bytes)) _ (check Range (λ n. nat_le n 1) (byte_at bytes) refl (one_byte bytes)) (λ n. fine _)

pub process_bytes : (host : ℕ) (bytes : List ℕ) → IsNumbered (process_bytes_at host bytes)
unfolding process_bytes_at
process_bytes host bytes = bind (bytes_at (host + 10) bytes) _ (some_bytes (host + 10) bytes) (λ field. fine _)

pub a_process : (least most : ℕ) (bytes : List ℕ) → IsNumbered (process_at least most bytes)
unfolding process_at
a_process least most bytes = bind (length_at 1 64 bytes) _ (a_length 1 64 bytes) (λ host. check Range _ (process_bytes_at host.0 host.1) refl (process_bytes host.0 host.1))

pub a_receiver : (anybody : Bool) (bytes : List ℕ) → IsNumbered (receiver_at anybody bytes)
a_receiver anybody bytes = choose anybody _ _ (a_process _ _ bytes) (a_process _ _ bytes)

pub a_ballot : (bytes : List ℕ) → IsNumbered (ballot_at bytes)
unfolding ballot_at
a_ballot bytes = bind (number_at 1 BOUND bytes) _ (a_number 1 BOUND bytes) (λ term. bind (process_at _ _ term.1) _ (a_process _ _ term.1) (λ who. fine _))

pub an_entity : (version : ℕ) (bytes : List ℕ) → IsNumbered (entity_at version bytes)
unfolding entity_at
an_entity version bytes = bind (length_at 1 (most_entity version) bytes) _ (a_length 1 (most_entity version) bytes) (λ n. check Range _ (bytes_at n.0 n.1) refl (some_bytes n.0 n.1))

pub a_header : (bytes : List ℕ) → IsNumbered (header_at bytes)
unfolding header_at
a_header bytes =
    bind _ _ (check Magic _ (bytes_at 3 bytes) refl (some_bytes 3 bytes)) (λ first.
    bind _ _ (check Version _ (byte_at first.1) refl (one_byte first.1)) (λ version.
    bind _ _ (check Kind _ (byte_at version.1) refl (one_byte version.1)) (λ kind. fine _)))

-- ---- lists
pub next_unique : (last : Option UniqueModel) (bytes : List ℕ) → IsNumbered (next_unique_at last bytes)
unfolding next_unique_at
next_unique last bytes = check Order _ (process_at _ _ bytes) refl (a_process _ _ bytes)

pub a_counted : (last : Option (UniqueModel × ℕ)) (bytes : List ℕ) → IsNumbered (counted_at last bytes)
unfolding counted_at
a_counted last bytes = bind (next_unique_at _ bytes) _ (next_unique _ bytes) (λ who. bind (number_at 1 BOUND who.1) _ (a_number 1 BOUND who.1) (λ count. fine _))

pub a_version : (bytes : List ℕ) → IsNumbered (version_at bytes)
unfolding version_at counts_at
a_version bytes =
    bind (length_at 0 128 bytes) _ (a_length 0 128 bytes) (λ many.
    bind (items_at counted_at None many.0 many.1) _ (items counted_at a_counted None many.0 many.1) (λ pairs. fine _))

pub a_report : (last : Option _) (bytes : List ℕ) → IsNumbered (report_at last bytes)
unfolding report_at
a_report last bytes =
    bind _ _ (check Order _ (shard_at bytes) refl (a_shard bytes)) (λ shard.
    bind (number_at 1 BOUND shard.1) _ (a_number 1 BOUND shard.1) (λ number.
    bind (flag_at number.1) _ (a_flag number.1) (λ hosted. fine _)))

pub a_report_count : (bytes : List ℕ) → IsNumbered (report_count_at bytes)
unfolding report_count_at
a_report_count bytes = check Count _ (wide_at _ bytes) refl (wide _ bytes)

pub some_reports : (bytes : List ℕ) → IsNumbered (reports_at bytes)
unfolding reports_at
some_reports bytes = bind (report_count_at bytes) _ (a_report_count bytes) (λ many. items report_at a_report None many.0 many.1)

-- ---- gossip
pub an_index : (many : ℕ) (last : Option ℕ) (bytes : List ℕ) → IsNumbered (index_at many last bytes)
unfolding index_at
an_index many last bytes = check Order _ _ refl (check Range _ (byte_at bytes) refl (one_byte bytes))

pub some_indices : (many : ℕ) (bytes : List ℕ) → IsNumbered (indices_at many bytes)
unfolding indices_at
some_indices many bytes = bind (length_at 0 many bytes) _ (a_length 0 many bytes) (λ length. items (index_at many) (an_index many) None length.0 length.1)

pub some_subjects : (many number : ℕ) (bytes : List ℕ) → IsNumbered (subjects_at many number bytes)
unfolding subjects_at
some_subjects many zero bytes = fine _
some_subjects many (suc number) bytes = some_indices many bytes

pub a_part : (many : ℕ) (last : Option Part) (bytes : List ℕ) → IsNumbered (part_at many last bytes)
unfolding part_at state_at up_number_at seen_at
a_part many last bytes =
    bind (next_unique_at _ bytes) _ (next_unique _ bytes) (λ who.
    bind (number_at 0 BOUND who.1) _ (a_number 0 BOUND who.1) (λ count.
    bind _ _ (check Range _ (byte_at count.1) refl (one_byte count.1)) (λ state.
    bind _ _ (check Range _ (wide_at _ state.1) refl (wide _ state.1)) (λ up_number.
    bind _ _ (check Range _ (flag_at up_number.1) refl (a_flag up_number.1)) (λ seen.
    bind (number_at 0 count.0 seen.1) _ (a_number 0 count.0 seen.1) (λ row_number.
    bind (subjects_at many row_number.0 row_number.1) _ (some_subjects many row_number.0 row_number.1) (λ subjects. fine _)))))))

pub some_parts : (bytes : List ℕ) → IsNumbered (parts_at bytes)
unfolding parts_at
some_parts bytes = bind (length_at 0 128 bytes) _ (a_length 0 128 bytes) (λ many. items (part_at many.0) (a_part many.0) None many.0 many.1)

pub has_number : {A : Type 0} (r : Result A WireFault) → IsNumbered r → (fault : WireFault) → r ≡ Err fault → is_some (fault_number fault) ≡ true
unfolding IsNumbered
has_number (Ok e) is fault same = absurd cc
has_number (Err d) is fault same = let e : d ≡ fault = cc in subst (λ (f : WireFault). is_some (fault_number f) ≡ true) e is

-- so a call that met a fault of the bytes did not run out of memory
pub takes_none : {X Z : Type 0} (Y : Type 0) (fault : WireFault) (met : Result Z WireFault) (read : Result X WireFault) → IsNumbered met → met ≡ Err fault → IsThere {Y = Y} (Err fault) read
takes_none Y (NoMemory error) met read numbered same = absurd (true≢false (sym (has_number met numbered (NoMemory error) same)))
takes_none Y Short met read numbered same = tt
takes_none Y Magic met read numbered same = tt
takes_none Y Version met read numbered same = tt
takes_none Y Kind met read numbered same = tt
takes_none Y Count met read numbered same = tt
takes_none Y Order met read numbered same = tt
takes_none Y Range met read numbered same = tt
takes_none Y Trailing met read numbered same = tt
