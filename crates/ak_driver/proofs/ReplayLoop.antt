-- What a replay's output has written by its end, from what was written before.
use Rattle.std.proofs.Common.{◌≡◌, ℕ, ◌⊎◌, List, [], ◌∷◌, ◌++◌, Bool, length, Option, None, Some, is_some, Result, Ok, Err, refl, sym, ap, subst, inl, inr, ◌∙◌, append-nil, append_assoc}
use Rattle.std.specs.List.{concat}
use Rattle.std.proofs.lemmas.List.Folds.{concat-append}
use Rattle.std.specs.Io.KnownBytes.{Appends}
use Rattle.std.proofs.Math.Seq.{take-append_seam}
use Rattle.std.proofs.KnownBytes.{Appends-trans, Appends-nil}
use Rattle.ak_outside.specs.Outside.{AppendsPrefix}
use Rattle.ak_outside.specs.declared.status.Status.{Status}
use Rattle.ak_outside.specs.declared.status.Status.TheVariants.{Done, Double, Schedule, Write, Memory}
use Rattle.ak_outside.proofs.Prefixes.{AppendsPrefix-after, AppendsPrefix-more}
use Rattle.ak_schedule.specs.Draft.{first_draft}
use Rattle.ak_schedule.specs.Line.{lines}
use Rattle.ak_world.specs.Double.{Doubled}
use Rattle.ak_world.specs.declared.margin.Margin.{Margin}
use Rattle.ak_driver.specs.declared.replay.Code.{Code}
use Rattle.ak_driver.specs.declared.replay.Code.TheVariants.{Malformed, BadHeader, PastLimit, Invalid}
use Rattle.ak_driver.specs.declared.replay.Replay.{Replay}
use Rattle.ak_driver.specs.declared.replay.Stage.{Stage}
use Rattle.ak_driver.specs.declared.replay.Stage.TheVariants.{Heading, Running}
use Rattle.ak_driver.specs.declared.replay.Stop.{Stop}
use Rattle.ak_driver.specs.declared.replay.Stop.TheVariants.{Refused, NoMemory}
use Rattle.ak_outside.specs.Endings.{Written, memory_line}
use Rattle.ak_driver.specs.ReplayText.{Progress, Ending, Finished, Stopped, Replays, ReplaysAs, IsReplay, IsFirstSteps, turn, ending_text, ending_status, at_start, refusal_text}
use Rattle.ak_driver.specs.ReplayPromise.{Prints}
use Rattle.ak_driver.specs.ReplayContracts.{progress, progress_of, Turns, TurnAnswers, FinishAnswers, finished_status, Ended}
use Rattle.ak_driver.proofs.SomeReplay.{some_from}

-- a refusal that could not be printed
pub refusal_starved : (text same refusal : List ℕ) (answer : Status) (w0 w1 : ℕ) (old new : Option (List ℕ)) → same ≡ text
    → Written Memory (same ++ memory_line) answer w0 w1 old new
    → Written Schedule refusal answer w0 w1 old new ⊎ Written Memory (text ++ memory_line) answer w0 w1 old new
refusal_starved text same refusal answer w0 w1 old new s w =
    inr (subst (λ (t : List ℕ). Written Memory (t ++ memory_line) answer w0 w1 old new) s w)

-- an end that is a refusal
pub refused_end : (end : Result Bool Stop) (stop : Stop) (code : Code) (line : ℕ) (text : List ℕ) (answer : Status) (w0 w1 : ℕ) (old new : Option (List ℕ))
    → end ≡ Err stop → stop ≡ Refused code
    → Written Schedule (text ++ refusal_text code line) answer w0 w1 old new ⊎ Written Memory (text ++ memory_line) answer w0 w1 old new
    → Ended end line text answer w0 w1 old new
refused_end end stop code line text answer w0 w1 old new e f w =
    subst (λ (r : Result Bool Stop). Ended r line text answer w0 w1 old new) (sym e)
    (subst (λ (t : Stop). Ended (Err t) line text answer w0 w1 old new) (sym f) w)

-- How far a replay of these bytes has come: these steps were taken, which a replay of the lines that are left completes; their
-- texts are written, since the start, or stand in what is printed.
pub record Along (bytes : List ℕ) (old now : Option (List ℕ)) (p : Progress) (rest : List (List ℕ)) (out : List ℕ) : Type 0 where
  pub steps : List (List ℕ)
  pub whole : (more : List (List ℕ)) (ending : Ending) → Replays p rest more ending → ReplaysAs bytes (steps ++ more) ending
  pub text : List ℕ
  pub written : Appends old now text
  pub printed : text ++ out ≡ concat steps

pub along_start : (bytes out : List ℕ) (a : Option (List ℕ)) (r : Replay) → r ≡ record { stage = Heading first_draft; line = 1; steps = 0 } → out ≡ []
    → Along bytes a a (progress_of r) (lines bytes) out
along_start bytes out a r e none =
    subst (λ (s : Replay). Along bytes a a (progress_of s) (lines bytes) out) (sym e)
    (subst (λ (o : List ℕ). Along bytes a a at_start (lines bytes) o) (sym none)
    (record { steps = []; whole = λ more ending r. r; text = []; written = Appends-nil a; printed = refl }))

-- one more line is accepted
pub along_turn : (bytes : List ℕ) (old now : Option (List ℕ)) (p q : Progress) (line : List ℕ) (rest others : List (List ℕ)) (out after text : List ℕ)
    → Along bytes old now p rest out → rest ≡ line ∷ others → Turns p line q text → after ≡ out ++ text → Along bytes old now q others after
along_turn bytes old now p q line rest others out after text a e t grown =
    let added : List (List ℕ) = (turn p t.judgement).1 in
    record {
      steps = a.steps ++ added;
      whole = λ more ending r.
          subst (λ (ss : List (List ℕ)). ReplaysAs bytes ss ending) (sym (append_assoc a.steps added more))
          (a.whole (added ++ more) ending
          (subst (λ (ls : List (List ℕ)). Replays p ls (added ++ more) ending) (sym e)
          (inr (t.judgement, t.judged, more, subst (λ (x : Progress). Replays x others more ending) t.next r, refl))));
      text = a.text;
      written = a.written;
      printed =
          ap (λ (o : List ℕ). a.text ++ o) grown
          ∙ sym (append_assoc a.text out text)
          ∙ ap (λ (o : List ℕ). o ++ text) a.printed
          ∙ ap (λ (o : List ℕ). concat a.steps ++ o) t.text_is
          ∙ sym (concat-append a.steps added);
    }

-- what was printed is written
pub along_flush : (bytes : List ℕ) (old now later : Option (List ℕ)) (p : Progress) (rest : List (List ℕ)) (out none : List ℕ)
    → Along bytes old now p rest out → Appends now later out → none ≡ [] → Along bytes old later p rest none
along_flush bytes old now later p rest out none a more e =
    subst (λ (o : List ℕ). Along bytes old later p rest o) (sym e)
    (record {
      steps = a.steps;
      whole = a.whole;
      text = a.text ++ out;
      written = Appends-trans old now later a.text out a.written more;
      printed = append-nil (a.text ++ out) ∙ a.printed;
    })

-- whole steps stand in what was written and printed
along_steps : (bytes : List ℕ) (old now : Option (List ℕ)) (p : Progress) (rest : List (List ℕ)) (out : List ℕ) (a : Along bytes old now p rest out)
    → IsFirstSteps bytes (a.text ++ out)
along_steps bytes old now p rest out a =
    let on = some_from rest p in
    (a.steps ++ on.0, on.1, a.whole on.0 on.1 on.2, length a.steps, a.printed ∙ ap concat (sym (take-append_seam a.steps on.0)))

-- the whole text of a replay that ends so
along_whole : (bytes : List ℕ) (old now : Option (List ℕ)) (p : Progress) (rest : List (List ℕ)) (out : List ℕ) (a : Along bytes old now p rest out) (ending : Ending)
    → Replays p rest [] ending → ReplaysAs bytes a.steps ending × (a.text ++ (out ++ ending_text ending) ≡ concat a.steps ++ ending_text ending)
along_whole bytes old now p rest out a ending r = (
  subst (λ (ss : List (List ℕ)). ReplaysAs bytes ss ending) (append-nil a.steps) (a.whole [] ending r),
  sym (append_assoc a.text out (ending_text ending)) ∙ ap (λ (o : List ℕ). o ++ ending_text ending) a.printed,
)

-- the sink fails on the way
pub along_fails : (bytes : List ℕ) (left old now later : Option (List ℕ)) (p : Progress) (rest : List (List ℕ)) (out : List ℕ)
    → Along bytes old now p rest out → AppendsPrefix now later out → Prints bytes left Write old later
along_fails bytes left old now later p rest out a f = (
  (a.text ++ out) ++ memory_line,
  inr (inl (a.text ++ out, along_steps bytes old now p rest out a, refl)),
  AppendsPrefix-more old later (a.text ++ out) memory_line (AppendsPrefix-after old now later a.text out a.written f),
)

prints_doubled : (bytes : List ℕ) (left old now later : Option (List ℕ)) (prefix text : List ℕ) (answer : Status) (w0 w1 : ℕ)
    → IsReplay bytes 1 (prefix ++ text) → Appends old now prefix → Written Double text answer w0 w1 now later → Prints bytes left answer old later
prints_doubled bytes left old now later prefix text answer w0 w1 i a (inl w) =
    subst (λ (s : Status). Prints bytes left s old later) (sym w.0) (prefix ++ text, i, Appends-trans old now later prefix text a w.2)
prints_doubled bytes left old now later prefix text answer w0 w1 i a (inr w) =
    subst (λ (s : Status). Prints bytes left s old later) (sym w.0) (prefix ++ text, inl (1, i), AppendsPrefix-after old now later prefix text a w.2)

prints_done : (bytes : List ℕ) (left old now later : Option (List ℕ)) (prefix text : List ℕ) (answer : Status) (w0 w1 : ℕ)
    → IsReplay bytes 0 (prefix ++ text) → Appends old now prefix → Written Done text answer w0 w1 now later → Prints bytes left answer old later
prints_done bytes left old now later prefix text answer w0 w1 i a (inl w) =
    subst (λ (s : Status). Prints bytes left s old later) (sym w.0) (prefix ++ text, i, Appends-trans old now later prefix text a w.2)
prints_done bytes left old now later prefix text answer w0 w1 i a (inr w) =
    subst (λ (s : Status). Prints bytes left s old later) (sym w.0) (prefix ++ text, inl (0, i), AppendsPrefix-after old now later prefix text a w.2)

-- all lines were accepted, with this double or none
prints_finished : (bytes : List ℕ) (left old now later : Option (List ℕ)) (p : Progress) (margin : Margin) (double : Option Doubled) (doubled : Bool) (prefix text : List ℕ) (answer : Status) (w0 w1 : ℕ) → doubled ≡ is_some double
    → IsReplay bytes (ending_status (Finished p margin double)) (prefix ++ text) → Appends old now prefix → Written (finished_status doubled) text answer w0 w1 now later → Prints bytes left answer old later
prints_finished bytes left old now later p margin None doubled prefix text answer w0 w1 is i a w =
    prints_done bytes left old now later prefix text answer w0 w1 i a (subst (λ (b : Bool). Written (finished_status b) text answer w0 w1 now later) is w)
prints_finished bytes left old now later p margin (Some double) doubled prefix text answer w0 w1 is i a w =
    prints_doubled bytes left old now later prefix text answer w0 w1 i a (subst (λ (b : Bool). Written (finished_status b) text answer w0 w1 now later) is w)

prints_refusal : (bytes : List ℕ) (left old now later : Option (List ℕ)) (prefix text : List ℕ) (answer : Status) (w0 w1 : ℕ)
    → IsReplay bytes 4 (prefix ++ text) → Appends old now prefix → Written Schedule text answer w0 w1 now later → Prints bytes left answer old later
prints_refusal bytes left old now later prefix text answer w0 w1 i a (inl w) =
    subst (λ (s : Status). Prints bytes left s old later) (sym w.0) (prefix ++ text, i, Appends-trans old now later prefix text a w.2)
prints_refusal bytes left old now later prefix text answer w0 w1 i a (inr w) =
    subst (λ (s : Status). Prints bytes left s old later) (sym w.0) (prefix ++ text, inl (4, i), AppendsPrefix-after old now later prefix text a w.2)

prints_memory : (bytes : List ℕ) (left old now later : Option (List ℕ)) (prefix text : List ℕ) (answer : Status) (w0 w1 : ℕ)
    → IsFirstSteps bytes (prefix ++ text) → Appends old now prefix → Written Memory (text ++ memory_line) answer w0 w1 now later → Prints bytes left answer old later
prints_memory bytes left old now later prefix text answer w0 w1 i a (inl w) =
    subst (λ (s : Status). Prints bytes left s old later) (sym w.0)
    (prefix ++ text, i, subst (λ (o : List ℕ). Appends old later o) (sym (append_assoc prefix text memory_line)) (Appends-trans old now later prefix (text ++ memory_line) a w.2))
prints_memory bytes left old now later prefix text answer w0 w1 i a (inr w) =
    subst (λ (s : Status). Prints bytes left s old later) (sym w.0) (
      (prefix ++ text) ++ memory_line,
      inr (inl (prefix ++ text, i, refl)),
      subst (λ (o : List ℕ). AppendsPrefix old later o) (sym (append_assoc prefix text memory_line)) (AppendsPrefix-after old now later prefix (text ++ memory_line) a w.2),
    )

along_memory : (bytes : List ℕ) (left old now later : Option (List ℕ)) (p : Progress) (rest : List (List ℕ)) (out after : List ℕ) (answer : Status) (w0 w1 : ℕ)
    → Along bytes old now p rest out → after ≡ out → Written Memory (after ++ memory_line) answer w0 w1 now later → Prints bytes left answer old later
along_memory bytes left old now later p rest out after answer w0 w1 a same w =
    prints_memory bytes left old now later a.text out answer w0 w1 (along_steps bytes old now p rest out a) a.written
    (subst (λ (t : List ℕ). Written Memory (t ++ memory_line) answer w0 w1 now later) same w)

-- a refusal, or running out of memory for its line
pub along_refusal : (bytes : List ℕ) (left old now later : Option (List ℕ)) (p : Progress) (rest : List (List ℕ)) (out after : List ℕ) (code : Code) (number : ℕ) (answer : Status) (w0 w1 : ℕ)
    → Along bytes old now p rest out → Replays p rest [] (Stopped code number) → after ≡ out
    → Written Schedule (after ++ refusal_text code number) answer w0 w1 now later ⊎ Written Memory (after ++ memory_line) answer w0 w1 now later → Prints bytes left answer old later
along_refusal bytes left old now later p rest out after code number answer w0 w1 a r same (inl w) =
    let whole = along_whole bytes old now p rest out a (Stopped code number) r in
    prints_refusal bytes left old now later a.text (out ++ refusal_text code number) answer w0 w1 (a.steps, Stopped code number, whole.0, refl, whole.1) a.written
    (subst (λ (t : List ℕ). Written Schedule (t ++ refusal_text code number) answer w0 w1 now later) same w)
along_refusal bytes left old now later p rest out after code number answer w0 w1 a r same (inr w) =
    along_memory bytes left old now later p rest out after answer w0 w1 a same w

-- a line stops the replay
pub along_stop : (e : Stop) (bytes : List ℕ) (left old now later : Option (List ℕ)) (p q : Progress) (line : List ℕ) (rest others : List (List ℕ)) (out after : List ℕ)
    (number : ℕ) (answer : Status) (w0 w1 : ℕ) → Along bytes old now p rest out → rest ≡ line ∷ others → TurnAnswers (Err e) line p q out after
    → number ≡ p.line → Ended (Err e) number after answer w0 w1 now later → Prints bytes left answer old later
along_stop (Refused code) bytes left old now later p q line rest others out after number answer w0 w1 a e t n w =
    along_refusal bytes left old now later p rest out after code number answer w0 w1 a
    (subst (λ (ls : List (List ℕ)). Replays p ls [] (Stopped code number)) (sym e) (inl (code, t.0, refl, ap (Stopped code) n)))
    t.1 w
along_stop NoMemory bytes left old now later p q line rest others out after number answer w0 w1 a e t n w =
    along_memory bytes left old now later p rest out after answer w0 w1 a t.1 w

-- a replay's next line is counted at each stage
pub progress_line : (s : Stage) (line : ℕ) → (progress s line).line ≡ line
progress_line (Heading draft) line = refl
progress_line (Running world) line = refl

-- the end of the lines
pub along_finish : (r : Result Bool Stop) (bytes : List ℕ) (left old now later : Option (List ℕ)) (p : Progress) (rest : List (List ℕ)) (out after : List ℕ)
    (number : ℕ) (answer : Status) (w0 w1 : ℕ) → Along bytes old now p rest out → rest ≡ [] → FinishAnswers r p out after
    → number ≡ p.line → Ended r number after answer w0 w1 now later → Prints bytes left answer old later
along_finish (Ok doubled) bytes left old now later p rest out after number answer w0 w1 a e f n w =
    let ending = Finished p f.1 f.2 in
    let whole = along_whole bytes old now p rest out a ending (subst (λ (ls : List (List ℕ)). Replays p ls [] ending) (sym e) (refl, inl (f.0, f.1, f.2, f.3, f.4, refl))) in
    prints_finished bytes left old now later p f.1 f.2 doubled a.text (out ++ ending_text ending) answer w0 w1 f.5 (a.steps, ending, whole.0, refl, whole.1) a.written
    (subst (λ (t : List ℕ). Written (finished_status doubled) t answer w0 w1 now later) f.6 w)
along_finish (Err (Refused Malformed)) bytes left old now later p rest out after number answer w0 w1 a e f n w = absurd f
along_finish (Err (Refused PastLimit)) bytes left old now later p rest out after number answer w0 w1 a e f n w = absurd f
along_finish (Err (Refused (Invalid why))) bytes left old now later p rest out after number answer w0 w1 a e f n w = absurd f
along_finish (Err (Refused BadHeader)) bytes left old now later p rest out after number answer w0 w1 a e f n w =
    along_refusal bytes left old now later p rest out after BadHeader number answer w0 w1 a
    (subst (λ (ls : List (List ℕ)). Replays p ls [] (Stopped BadHeader number)) (sym e) (refl, inr (f.0, ap (Stopped BadHeader) n)))
    f.1 w
along_finish (Err NoMemory) bytes left old now later p rest out after number answer w0 w1 a e f n w =
    along_memory bytes left old now later p rest out after answer w0 w1 a f.1 w
