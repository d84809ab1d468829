use Rattle.std.proofs.Common.{◌≡◌}
use Rattle.std.proofs.lemmas.Bool.{false≢true}
use Rattle.ak_schedule.specs.Line.{words}
use Rattle.ak_schedule.specs.Kind as kind
use Rattle.ak_schedule.specs.Kind.{kind_name}
use Rattle.ak_schedule.proofs.EventWords.{unnamed}
use Rattle.ak_schedule.proofs.read.read_other.Goals as goal
use Rattle.ak_schedule.proofs.read.read_other.Goals.{Else-is_text-8}

none : (c : Else-is_text-8) (k : kind.Kind) → c.args.name.now ≡ kind_name k → ⊥
none c kind.Deliver is = c.requires is
none c kind.Start is = false≢true (c.if-is_text.ensures.1 is)
none c kind.Found is = false≢true (c.if-is_text-2.ensures.1 is)
none c kind.Join is = false≢true (c.if-is_text-3.ensures.1 is)
none c kind.Tick is = false≢true (c.if-is_text-4.ensures.1 is)
none c kind.Leave is = false≢true (c.if-is_text-5.ensures.1 is)
none c kind.Down is = false≢true (c.if-is_text-6.ensures.1 is)
none c kind.Offer is = false≢true (c.if-is_text-7.ensures.1 is)
none c kind.Stop is = false≢true (c.if-is_text-8.ensures.1 is)

pub returns : goal.returns
returns c = unnamed c.args.name.now (words c.args.rest.now) (none c)
