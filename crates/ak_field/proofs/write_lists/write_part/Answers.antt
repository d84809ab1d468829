use Rattle.std.proofs.Common.{◌≡◌, ◌++◌, List, ℕ}
use Rattle.ak_field.specs.Spelling.{byte, eight_bytes, process, flag}
use Rattle.ak_field.specs.Parts.{subjects}
use Rattle.ak_field.proofs.Written.{appended}
use Rattle.ak_field.proofs.write_lists.write_part.Goals as goal

seven : (o r s t u v w x a b c d e f g : List ℕ) → r ≡ o ++ a → s ≡ r ++ b → t ≡ s ++ c → u ≡ t ++ d → v ≡ u ++ e → w ≡ v ++ f → x ≡ w ++ g → x ≡ o ++ (a ++ (b ++ (c ++ (d ++ (e ++ (f ++ g))))))
seven o r s t u v w x a b c d e f g p1 p2 p3 p4 p5 p6 p7 =
    let q6 = appended v w x f g p6 p7 in
    let q5 = appended u v x e (f ++ g) p5 q6 in
    let q4 = appended t u x d (e ++ (f ++ g)) p4 q5 in
    let q3 = appended s t x c (d ++ (e ++ (f ++ g))) p3 q4 in
    let q2 = appended r s x b (c ++ (d ++ (e ++ (f ++ g)))) p2 q3 in
    appended o r x a (b ++ (c ++ (d ++ (e ++ (f ++ g))))) p1 q2

pub returns : goal.returns
returns c =
    let p = c.args.one.now in
    seven c.args.out.now.items c.write_unique.new.out.items c.write_number.new.out.items c.write_byte.new.out.items c.write_number-2.new.out.items c.write_flag.new.out.items c.write_number-3.new.out.items c.write_subjects.new.out.items
    (process p.unique) (eight_bytes p.count) (byte p.state) (eight_bytes p.up_number) (flag p.seen) (eight_bytes p.row_number) (subjects p.row_number p.subjects)
    c.in_ok-write_unique.ensures.ok c.in_ok-write_number.ensures.ok c.in_ok-write_byte.ensures.ok c.in_ok-write_number-2.ensures.ok c.in_ok-write_flag.ensures.ok c.in_ok-write_number-3.ensures.ok (rw (← c.as_slice.ensures) c.in_ok-write_subjects.ensures)
