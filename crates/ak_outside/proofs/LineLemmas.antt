-- What a reader of lines holds, and gives.
use Rattle.std.proofs.Common.{◌≡◌, ◌≢◌, ℕ, ◌+◌, ◌-◌, ◌<◌, ◌≤◌, Bool, true, false, List, ◌++◌, length, take, drop, Option, Some, None, IfSome, refl, sym, ap, ◌∙◌, subst, arith, nat_eq, length-drop, append_assoc}
use Rattle.std.proofs.lemmas.List.{drop-take, length-take, length-take-le, take-take, drop-drop, take_at, drop_at}
use Rattle.std.proofs.Math.Seq.{take-add}
use Rattle.std.proofs.lemmas.Slice.{take-put_mid}
use borrow.Rule.Slice.PartMut.{put_mid}
use Rattle.std.proofs.lemmas.List.Edits.{take-paste}
use Rattle.std.specs.List.{copy_within}
use Rattle.std.proofs.lemmas.Bool.Decides.{nat_tests}
use Rattle.std.specs.Io.KnownBytes.{Consumes, IsAtEnd}
use Rattle.ak_outside.specs.Lines.{LineState, to_come, IsTrimmed, NextCause}
use Rattle.ak_outside.specs.declared.lines.Next.{Next}
use Rattle.ak_outside.specs.declared.lines.Next.TheVariants.{Line, TooLong, End, Failed}

-- bytes that are held stand before their end
held_within : (buffer held : List ℕ) (start end count : ℕ) → take (end - start) (drop start buffer) ≡ held → start ≤ end → count ≤ length held → start + count ≤ end
held_within buffer held start end count is order within =
    let size : length held ≤ end - start = subst (λ (l : List ℕ). length l ≤ end - start) is (simp length-take (omega arith)) in
    omega (arith, order, within, size)

-- first bytes of what a buffer holds
pub held_part : (buffer held : List ℕ) (start end count : ℕ) → take (end - start) (drop start buffer) ≡ held → start ≤ end → count ≤ length held → take (start + count - start) (drop start buffer) ≡ take count held
held_part buffer held start end count is order within =
    let le = held_within buffer held start end count is order within in
    let size : start + count - start ≡ count = omega arith in
    ap (λ (n : ℕ). take n (drop start buffer)) size ∙ sym (take-take count (end - start) (drop start buffer) (omega arith)) ∙ ap (take count) is

-- a part of what a buffer holds from a place on
pub held_rest : (buffer held : List ℕ) (start end with_end : ℕ) → take (end - start) (drop start buffer) ≡ held → start ≤ end → with_end ≤ length held → take (end - (start + with_end)) (drop (start + with_end) buffer) ≡ drop with_end held
held_rest buffer held start end with_end is order within =
    let le = held_within buffer held start end with_end is order within in
    let size : with_end + (end - (start + with_end)) ≡ end - start = omega arith in
    sym (sym (ap (drop with_end) is)
    ∙ ap (λ (n : ℕ). drop with_end (take n (drop start buffer))) (sym size)
    ∙ drop-take with_end (end - (start + with_end)) (drop start buffer)
    ∙ ap (take (end - (start + with_end))) (drop-drop with_end start buffer))

-- a line that is cut from the first bytes of what is held
pub given_line : (part held : List ℕ) (count n : ℕ) → part ≡ take count held → n ≤ length part → IsTrimmed part (take n part) → (n ≡ length (take n held)) × IsTrimmed (take count held) (take n held)
given_line part held count n is within trimmed =
    let short : length part ≤ count = rw is (simp length-take (omega arith)) in
    let same : take n part ≡ take n held = ap (take n) is ∙ take-take n count held (omega arith) in (
      sym (ap length (sym same) ∙ length-take-le n part within),
      subst (λ (l : List ℕ). IsTrimmed l (take n held)) is (subst (IsTrimmed part) same trimmed),
    )

-- what is held is as long as its place
pub held_size : (buffer held : List ℕ) (start end : ℕ) → take (end - start) (drop start buffer) ≡ held → start ≤ end → end ≤ length buffer → end - start ≡ length held
held_size buffer held start end is order within = sym (length-take-le (end - start) (drop start buffer) (omega (arith, length-drop start buffer))) ∙ ap length is

-- a buffer that holds less than is in it has room
pub room_left : (buffer : List ℕ) (size : ℕ) → size < 8192 → length buffer ≡ 8192 → 0 < length (take (8192 - size) (drop size buffer))
room_left buffer size less long = rw (length-take-le (8192 - size) (drop size buffer) (omega (arith, long, length-drop size buffer))) (omega (arith, less))

-- what is held stands first after it was moved
pub moved_first : (buffer : List ℕ) (start end : ℕ) → start ≤ end → end ≤ length buffer → take (end - start) (copy_within buffer start end 0) ≡ take (end - start) (drop start buffer)
moved_first buffer start end order within =
    let size : 0 + (end - start) ≡ end - start = omega arith in
    ap (λ (n : ℕ). take n (copy_within buffer start end 0)) (sym size) ∙ take-paste buffer 0 (drop start buffer) (end - start) (omega arith) (omega (arith, length-drop start buffer))

-- what was held, and then the first bytes of what was read after it
pub held_more : (buffer got : List ℕ) (size room count : ℕ) → size ≤ length buffer → count ≤ length got → take (size + count) (put_mid size room buffer got) ≡ take size buffer ++ take count got
held_more buffer got size room count within fits =
    let start : length (take size buffer) ≡ size = length-take-le size buffer within in
    sym (take-take (size + count) (size + length got) (put_mid size room buffer got) (omega arith))
    ∙ ap (take (size + count)) (take-put_mid size room buffer got (size + length got) refl within)
    ∙ take-add size count (take size buffer ++ got)
    ∙ ap (λ (l : List ℕ). l ++ take count (drop size (take size buffer ++ got))) (take_at (take size buffer) got size start)
    ∙ ap (λ (l : List ℕ). take size buffer ++ take count l) (drop_at (take size buffer) got size start)

-- after one more read all is still to come
pub kept_more : (old new : LineState) (before after : Option (List ℕ)) (count : ℕ) (got : List ℕ) → old.ended ≡ false → new.ended ≡ nat_eq count 0 → new.held ≡ old.held ++ take count got
    → Consumes before after (take count got) → (count ≡ 0 → IsAtEnd before) → IfSome (to_come old before) (λ bytes. to_come new after ≡ Some bytes)
kept_more old new None after count got open_ ended held given end = rw open_ tt
kept_more old new (Some left) None count got open_ ended held given end = absurd given
kept_more old new (Some left) (Some rest) count got open_ ended held given end = rw open_ (by_end (nat_eq count 0) refl)
  where
    by_end : (b : Bool) → nat_eq count 0 ≡ b → to_come new (Some rest) ≡ Some (old.held ++ left)
    by_end true e =
        let none : count ≡ 0 = grind (arith, nat_tests) in
        let some : new.ended ≡ true = ended ∙ e in
        rw some (ap Some (held ∙ ap (λ (l : List ℕ). old.held ++ l) (ap (λ (n : ℕ). take n got) none ∙ sym (end none))))
    by_end false e =
        let some : new.ended ≡ false = ended ∙ e in
        rw some (ap Some (ap (λ (l : List ℕ). l ++ rest) held ∙ append_assoc old.held (take count got) rest ∙ ap (λ (l : List ℕ). old.held ++ l) (sym given)))

-- a source that gave nothing is at its end
pub at_end : (before after : Option (List ℕ)) (count : ℕ) (got : List ℕ) → Consumes before after (take count got) → (count ≡ 0 → IsAtEnd before) → nat_eq count 0 ≡ true → IfSome before (λ left. IsAtEnd after)
at_end None after count got given end zeroed = tt
at_end (Some left) None count got given end zeroed = absurd given
at_end (Some left) (Some rest) count got given end zeroed =
    let none : count ≡ 0 = grind (arith, nat_tests) in
    sym (sym (end none) ∙ given ∙ ap (λ (n : ℕ). take n got ++ rest) none)

-- an answer for which the source was not asked counts no fault
pub no_cause : (next : Next) (old new : ℕ) → next ≢ Failed → new ≡ old → NextCause old new next
no_cause (Line n) old new sure same = same
no_cause TooLong old new sure same = same
no_cause End old new sure same = same
no_cause Failed old new sure same = absurd (sure refl)
