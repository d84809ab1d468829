use Rattle.std.proofs.Common.{◌≡◌, ◌∙◌, [], codes, refl, ap, arith}
use Rattle.std.proofs.lemmas.Result.{err_from_is_err_and}
use Rattle.ak_schedule.specs.declared.draft.Header as header
use Rattle.ak_schedule.specs.Draft.{Drafted}
use Rattle.ak_schedule.specs.Line.{words}
use Rattle.ak_schedule.specs.Schedule.{SpellsListing, SpellsSetting}
use Rattle.ak_schedule.proofs.HeaderLines.{next_set, next_refused, first_refused}
use Rattle.ak_schedule.proofs.draft.Draft.set_next.Goals as goal

pub returns-in_ok-self-inside-in-0 : goal.returns-in_ok-self-inside-in-0
returns-in_ok-self-inside-in-0 c =
    let s = c.self.inside in
    let listed = c.in_ok-listed-in-0.listed.items in
    let same : c.in_ok-self-inside-in-0.field-0.items ≡ listed = c.in_ok-self-inside-in-0.ensures ∙ c.deref.ensures.value in
    rw (← c.self.view_is)
    (next_set 0 header.TheVariants.Listed c.args.line.now _ _ c.in-0.is refl c.requires.short
    (listed, c.in_ok-listed-in-0.ensures, λ i. record { listed = listed; strategy = s.strategy; margin = s.margin; deadline = s.deadline; stable = s.stable; shards = s.shards; buffer = s.buffer; threshold = s.threshold; limit = s.limit; weakly = s.weakly; role = same i; types = s.types.items }) refl refl)

pub returns-in_err-listed-in-0 : goal.returns-in_err-listed-in-0
returns-in_err-listed-in-0 c =
    let is = err_from_is_err_and c.from_residual.result c.from_residual.ensures.1 in
    rw (is.1, is.2, ← c.self.view_is) (
    first_refused (SpellsListing (words c.args.line.now)) header.TheVariants.Listed c.args.line.now _ c.in_err-listed-in-0.field-0.0 c.in-0.is refl c.in_err-listed-in-0.ensures (λ new sets. (sets.0, sets.1)))

pub returns-in_ok-self-inside-in-1 : goal.returns-in_ok-self-inside-in-1
returns-in_ok-self-inside-in-1 c = rw (← c.self.view_is) (next_set 1 header.TheVariants.Strategy c.args.line.now _ _ c.in-1.is refl c.requires.short (c.in_ok-self-inside-in-1.field-0, c.in_ok-self-inside-in-1.ensures, refl) refl refl)

pub returns-in_ok-self-inside-in-2 : goal.returns-in_ok-self-inside-in-2
returns-in_ok-self-inside-in-2 c = rw (← c.self.view_is) (next_set 2 header.TheVariants.Margin c.args.line.now _ _ c.in-2.is refl c.requires.short (c.in_ok-self-inside-in-2.field-0, c.in_ok-self-inside-in-2.ensures, refl) refl refl)

pub returns-in_ok-self-inside-in-3 : goal.returns-in_ok-self-inside-in-3
returns-in_ok-self-inside-in-3 c = rw (← c.self.view_is) (next_set 3 header.TheVariants.Deadline c.args.line.now _ _ c.in-3.is refl c.requires.short (c.in_ok-self-inside-in-3.field-0, c.in_ok-self-inside-in-3.ensures, refl) refl refl)

pub returns-in_ok-self-inside-in-4 : goal.returns-in_ok-self-inside-in-4
returns-in_ok-self-inside-in-4 c = rw (← c.self.view_is) (next_set 4 header.TheVariants.Stable c.args.line.now _ _ c.in-4.is refl c.requires.short (c.in_ok-self-inside-in-4.field-0, c.in_ok-self-inside-in-4.ensures, refl) refl refl)

pub returns-in_ok-shards-in-5 : goal.returns-in_ok-shards-in-5
returns-in_ok-shards-in-5 c =
    let s = c.self.inside in
    let shards = c.in_ok-shards-in-5.shards in
    let none : c.new.result.items ≡ [] = c.new.ensures.items in
    rw (← c.self.view_is)
    (next_set 5 header.TheVariants.Shards c.args.line.now _ _ c.in-5.is refl c.requires.short
    (shards, c.in_ok-shards-in-5.ensures, λ i. record { listed = s.listed.items; strategy = s.strategy; margin = s.margin; deadline = s.deadline; stable = s.stable; shards = shards; buffer = s.buffer; threshold = s.threshold; limit = s.limit; weakly = s.weakly; role = s.role.items; types = none i }) refl refl)

pub returns-in_ok-self-inside-in-6 : goal.returns-in_ok-self-inside-in-6
returns-in_ok-self-inside-in-6 c = rw (← c.self.view_is) (next_set 6 header.TheVariants.Buffer c.args.line.now _ _ c.in-6.is refl c.requires.short (c.in_ok-self-inside-in-6.field-0, c.in_ok-self-inside-in-6.ensures, refl) refl refl)

pub returns-in_ok-self-inside-in-7 : goal.returns-in_ok-self-inside-in-7
returns-in_ok-self-inside-in-7 c = rw (← c.self.view_is) (next_set 7 header.TheVariants.Threshold c.args.line.now _ _ c.in-7.is refl c.requires.short (c.in_ok-self-inside-in-7.field-0, c.in_ok-self-inside-in-7.ensures, refl) refl refl)

pub returns-in_ok-self-inside-in_default : goal.returns-in_ok-self-inside-in_default
returns-in_ok-self-inside-in_default c =
    let read = ap (λ (d : Drafted). d.read) c.self.view_is in
    let at : c.self.inside.read ≡ 8 = grind (arith) in
    rw (← c.self.view_is) (next_set 8 header.TheVariants.Limit c.args.line.now _ _ at refl c.requires.short (c.in_ok-self-inside-in_default.field-0, c.in_ok-self-inside-in_default.ensures, refl) refl refl)

pub returns-in_err-self-inside-in-2 : goal.returns-in_err-self-inside-in-2
returns-in_err-self-inside-in-2 c =
    let is = err_from_is_err_and c.from_residual-in_err-self-inside-in-2.result c.from_residual-in_err-self-inside-in-2.ensures.1 in
    rw (is.1, is.2, ← c.self.view_is) (
    next_refused (SpellsSetting (codes "margin") 1000000 (words c.args.line.now)) 2 header.TheVariants.Margin c.args.line.now _ c.in_err-self-inside-in-2.field-0.0 c.in-2.is refl c.in_err-self-inside-in-2.ensures (λ new sets. (sets.0, sets.1)))

pub returns-in_err-self-inside-in-3 : goal.returns-in_err-self-inside-in-3
returns-in_err-self-inside-in-3 c =
    let is = err_from_is_err_and c.from_residual-in_err-self-inside-in-3.result c.from_residual-in_err-self-inside-in-3.ensures.1 in
    rw (is.1, is.2, ← c.self.view_is) (
    next_refused (SpellsSetting (codes "deadline") 1000000 (words c.args.line.now)) 3 header.TheVariants.Deadline c.args.line.now _ c.in_err-self-inside-in-3.field-0.0 c.in-3.is refl c.in_err-self-inside-in-3.ensures (λ new sets. (sets.0, sets.1)))

pub returns-in_err-self-inside-in-4 : goal.returns-in_err-self-inside-in-4
returns-in_err-self-inside-in-4 c =
    let is = err_from_is_err_and c.from_residual-in_err-self-inside-in-4.result c.from_residual-in_err-self-inside-in-4.ensures.1 in
    rw (is.1, is.2, ← c.self.view_is) (
    next_refused (SpellsSetting (codes "stable") 1000000 (words c.args.line.now)) 4 header.TheVariants.Stable c.args.line.now _ c.in_err-self-inside-in-4.field-0.0 c.in-4.is refl c.in_err-self-inside-in-4.ensures (λ new sets. (sets.0, sets.1)))

pub returns-in_err-shards-in-5 : goal.returns-in_err-shards-in-5
returns-in_err-shards-in-5 c =
    let is = err_from_is_err_and c.from_residual-in_err-shards-in-5.result c.from_residual-in_err-shards-in-5.ensures.1 in
    rw (is.1, is.2, ← c.self.view_is) (
    next_refused (SpellsSetting (codes "shards") 1000 (words c.args.line.now)) 5 header.TheVariants.Shards c.args.line.now _ c.in_err-shards-in-5.field-0.0 c.in-5.is refl c.in_err-shards-in-5.ensures (λ new sets. (sets.0, sets.1)))

pub returns-in_err-self-inside-in-6 : goal.returns-in_err-self-inside-in-6
returns-in_err-self-inside-in-6 c =
    let is = err_from_is_err_and c.from_residual-in_err-self-inside-in-6.result c.from_residual-in_err-self-inside-in-6.ensures.1 in
    rw (is.1, is.2, ← c.self.view_is) (
    next_refused (SpellsSetting (codes "buffer") 100000 (words c.args.line.now)) 6 header.TheVariants.Buffer c.args.line.now _ c.in_err-self-inside-in-6.field-0.0 c.in-6.is refl c.in_err-self-inside-in-6.ensures (λ new sets. (sets.0, sets.1)))

pub returns-in_err-self-inside-in-7 : goal.returns-in_err-self-inside-in-7
returns-in_err-self-inside-in-7 c =
    let is = err_from_is_err_and c.from_residual-in_err-self-inside-in-7.result c.from_residual-in_err-self-inside-in-7.ensures.1 in
    rw (is.1, is.2, ← c.self.view_is) (
    next_refused (SpellsSetting (codes "threshold") 1000 (words c.args.line.now)) 7 header.TheVariants.Threshold c.args.line.now _ c.in_err-self-inside-in-7.field-0.0 c.in-7.is refl c.in_err-self-inside-in-7.ensures (λ new sets. (sets.0, sets.1)))

pub returns-in_err-self-inside-in_default : goal.returns-in_err-self-inside-in_default
returns-in_err-self-inside-in_default c =
    let read = ap (λ (d : Drafted). d.read) c.self.view_is in
    let at : c.self.inside.read ≡ 8 = grind (arith) in
    let is = err_from_is_err_and c.from_residual-in_err-self-inside-in_default.result c.from_residual-in_err-self-inside-in_default.ensures.1 in
    rw (is.1, is.2, ← c.self.view_is) (
    next_refused (SpellsSetting (codes "limit") 1000 (words c.args.line.now)) 8 header.TheVariants.Limit c.args.line.now _ c.in_err-self-inside-in_default.field-0.0 at refl c.in_err-self-inside-in_default.ensures (λ new sets. (sets.0, sets.1)))
