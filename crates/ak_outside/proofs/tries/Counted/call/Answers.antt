use Rattle.std.proofs.Common.{rules, arith, ◌≡◌, ◌++◌, ◌∷◌, [], length-append}
use Rattle.std.proofs.lemmas.Fn.{FoldsTo-push}
use Rattle.std.specs.IoError.{error_kind}
use Rattle.std.specs.declared.io.ErrorKind.TheVariants.{Interrupted}
use Rattle.ak_outside.specs.Tries.{InterruptedCall}
use Rattle.ak_outside.proofs.tries.Counted.call.Goals as goal

pub tries-preserved : goal.tries-preserved
tries-preserved g c =
    let kind : error_kind c.in-Err.e ≡ Interrupted = search rules in (
      c.tries.invariant.0 ++ (c.in-Err.e ∷ []),
      grind (arith, length-append),
      FoldsTo-push (InterruptedCall (g.C.Attempt.gives c.args.with)) c.args.self.now.caller c.tries.invariant.0 c.tries.self.caller c.in-Err.e c.attempt.new.self c.tries.invariant.2 (c.in-Err.ensures, kind),
      c.tries.invariant.3,
    )
