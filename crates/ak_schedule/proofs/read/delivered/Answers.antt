use Rattle.std.proofs.Common.{◌≡◌, ◌++◌, ◌≤◌, ℕ, List, codes, IfSome, Option, None, Some, subst, sym}
use Rattle.ak_address.specs.Spelling.{IsNumber}
use Rattle.ak_schedule.specs.Line.{words}
use Rattle.ak_schedule.specs.Schedule.{SpellsWords}
use Rattle.ak_schedule.specs.declared.event.Event.TheVariants.{Deliver}
use Rattle.ak_schedule.proofs.Canonical.{delivered_words}
use Rattle.ak_schedule.proofs.read.delivered.Goals as goal

of_digits : (line digits : List ℕ) (r : Option ℕ) → line ≡ codes "deliver " ++ digits → IfSome r (λ n. IsNumber digits n × (0 ≤ n) × (n ≤ 9223372036854775807)) → IfSome r (λ packet. SpellsWords (words line) (Deliver packet))
of_digits line digits None is found = tt
of_digits line digits (Some packet) is found = subst (λ l. SpellsWords (words l) (Deliver packet)) (sym is) (delivered_words digits packet found.0 found.2)

pub returns : goal.returns
returns c = of_digits c.args.line.now c.in_ok-digits.digits.now c.parse_number.result c.in_ok-digits.ensures c.parse_number.ensures.found
