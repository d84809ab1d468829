-- What is printed of the parts of a step and a summary, one after another.
use Rattle.std.proofs.Common.{◌≡◌, ℕ, List, [], ◌∷◌, ◌++◌, length, Option, sym, ap, ◌∙◌, append_assoc}
use Rattle.std.specs.Prelude.{codes}
use Rattle.std.specs.Fmt.{decimal}
use Rattle.ak_report.specs.ActionText.{actions_text}
use Rattle.ak_wire.specs.declared.envelope.Envelope.{Envelope}
use Rattle.ak_world.specs.StepText.{summary_text, margin_text, double_text, IsSummary, text_with, delivery_text, shown, acting}
use Rattle.ak_world.specs.declared.margin.Margin.{Margin}
use Rattle.ak_settings.specs.Settings.{SettingsModel}
use Rattle.ak_world.specs.Margin.{IsMargin}
use Rattle.ak_world.specs.Double.{Doubled, IsFirstDouble}
use Rattle.ak_world.specs.World.{WorldState, Done}
use Rattle.ak_node.specs.declared.node.State.{State}
use Rattle.ak_schedule.specs.Schedule.{event_text}
use Rattle.ak_schedule.specs.declared.event.Event.{Event}

lines : (a b c d e f g h n : List ℕ) → (((((a ++ b ++ n) ++ (c ++ d ++ n)) ++ (e ++ f ++ n)) ++ g) ++ h) ≡ a ++ b ++ n ++ c ++ d ++ n ++ e ++ f ++ n ++ g ++ h
lines a b c d e f g h n = simp append_assoc

-- the lines of a summary, one after another
pub summary_printed : (steps : ℕ) (margin : Margin) (double : Option Doubled) (w : WorldState) (packets history : ℕ) (t0 t1 t2 t3 t4 t5 : List ℕ) → packets ≡ length w.packets → history ≡ length w.history
    → t0 ≡ []
    → t1 ≡ t0 ++ (codes "steps " ++ decimal steps ++ 10 ∷ [])
    → t2 ≡ t1 ++ (codes "packets " ++ decimal packets ++ 10 ∷ [])
    → t3 ≡ t2 ++ (codes "history " ++ decimal history ++ 10 ∷ [])
    → t4 ≡ t3 ++ margin_text margin w.nodes
    → t5 ≡ t4 ++ double_text double w.nodes
    → t5 ≡ summary_text steps margin double w
summary_printed steps margin double w packets history t0 t1 t2 t3 t4 t5 are_packets are_entries e0 e1 e2 e3 e4 e5 =
    let m : List ℕ = margin_text margin w.nodes in
    let d : List ℕ = double_text double w.nodes in
    e5
    ∙ ap (λ (t : List ℕ). t ++ d)
    (e4 ∙ ap (λ (t : List ℕ). t ++ m)
    (e3 ∙ ap (λ (t : List ℕ). t ++ (codes "history " ++ decimal history ++ 10 ∷ []))
    (e2 ∙ ap (λ (t : List ℕ). t ++ (codes "packets " ++ decimal packets ++ 10 ∷ []))
    (e1 ∙ ap (λ (t : List ℕ). t ++ (codes "steps " ++ decimal steps ++ 10 ∷ [])) e0))))
    ∙ lines (codes "steps ") (decimal steps) (codes "packets ") (decimal packets) (codes "history ") (decimal history) m d (10 ∷ [])
    ∙ ap (λ (p : ℕ). codes "steps " ++ decimal steps ++ 10 ∷ [] ++ codes "packets " ++ decimal p ++ 10 ∷ [] ++ codes "history " ++ decimal history ++ 10 ∷ [] ++ m ++ d) are_packets
    ∙ ap (λ (h : ℕ). codes "steps " ++ decimal steps ++ 10 ∷ [] ++ codes "packets " ++ decimal (length w.packets) ++ 10 ∷ [] ++ codes "history " ++ decimal h ++ 10 ∷ [] ++ m ++ d) are_entries

-- what was printed is a summary of the run
pub summary_of : (settings : SettingsModel) (events : List Event) (steps : ℕ) (w : WorldState) (margin : Margin) (double : Option Doubled) (text old new : List ℕ) → IsMargin settings events margin
    → IsFirstDouble settings events double → text ≡ summary_text steps margin double w → new ≡ old ++ text → (added : List ℕ) × IsSummary settings events steps w added × (new ≡ old ++ added)
summary_of settings events steps w margin double text old new is first text_is printed = (text, (margin, double, is, first, text_is), printed)

-- the parts of the line of a broken margin, one after another
pub margin_printed : (a b c d e f g t0 t1 t2 t3 t4 t5 t6 t7 : List ℕ) → t1 ≡ t0 ++ a → t2 ≡ t1 ++ b → t3 ≡ t2 ++ c → t4 ≡ t3 ++ d → t5 ≡ t4 ++ e → t6 ≡ t5 ++ f → t7 ≡ t6 ++ g → t7 ≡ t0 ++ (a ++ b ++ c ++ d ++ e ++ f ++ g)
margin_printed a b c d e f g t0 t1 t2 t3 t4 t5 t6 t7 e1 e2 e3 e4 e5 e6 e7 =
    e7
    ∙ ap (λ (t : List ℕ). t ++ g)
    (e6 ∙ ap (λ (t : List ℕ). t ++ f)
    (e5 ∙ ap (λ (t : List ℕ). t ++ e)
    (e4 ∙ ap (λ (t : List ℕ). t ++ d)
    (e3 ∙ ap (λ (t : List ℕ). t ++ c)
    (e2 ∙ ap (λ (t : List ℕ). t ++ b) e1)))))
    ∙ in_order a b c d e f g t0
  where
    in_order : (a b c d e f g t : List ℕ) → (((((((t ++ a) ++ b) ++ c) ++ d) ++ e) ++ f) ++ g) ≡ t ++ (a ++ b ++ c ++ d ++ e ++ f ++ g)
    in_order a b c d e f g t = simp append_assoc

pub margin_done : (a b c d e f g text t0 t1 t2 t3 t4 t5 t6 t7 : List ℕ) → t1 ≡ t0 ++ a → t2 ≡ t1 ++ b → t3 ≡ t2 ++ c → t4 ≡ t3 ++ d → t5 ≡ t4 ++ e → t6 ≡ t5 ++ f → text ≡ a ++ b ++ c ++ d ++ e ++ f ++ g
    → t7 ≡ t6 ++ g → t7 ≡ t0 ++ text
margin_done a b c d e f g text t0 t1 t2 t3 t4 t5 t6 t7 e1 e2 e3 e4 e5 e6 is printed =
    margin_printed a b c d e f g t0 t1 t2 t3 t4 t5 t6 t7 e1 e2 e3 e4 e5 e6 printed ∙ ap (λ (t : List ℕ). t0 ++ t) (sym is)

-- the parts of a step, one after another
pub step_printed : (told : Option Envelope) (first number : ℕ) (e : Event) (done : Done) (n : Option State) (came : Option Envelope) (t0 t1 t2 t3 : List ℕ) → n ≡ acting done → came ≡ told
    → t1 ≡ t0 ++ (decimal number ++ codes " " ++ event_text e)
    → t2 ≡ t1 ++ (10 ∷ delivery_text e came n)
    → t3 ≡ t2 ++ actions_text (shown n) first done.actions
    → t3 ≡ t0 ++ text_with told first number e done
step_printed told first number e done n came t0 t1 t2 t3 acts same e1 e2 e3 =
    let head = decimal number ++ codes " " ++ event_text e in
    let arrival = 10 ∷ delivery_text e came n in
    let items = actions_text (shown n) first done.actions in
    e3
    ∙ ap (λ (t : List ℕ). t ++ items) (e2 ∙ ap (λ (t : List ℕ). t ++ arrival) e1)
    ∙ append_assoc (t0 ++ head) arrival items
    ∙ append_assoc t0 head (arrival ++ items)
    ∙ ap (λ (m : Option State). t0 ++ (head ++ ((10 ∷ delivery_text e came m) ++ actions_text (shown m) first done.actions))) acts
    ∙ ap (λ (o : Option Envelope). t0 ++ (head ++ ((10 ∷ delivery_text e o (acting done)) ++ actions_text (shown (acting done)) first done.actions))) same
    ∙ ap (λ (t : List ℕ). t0 ++ t) (in_order (decimal number) (codes " ") (event_text e) (10 ∷ []) (delivery_text e told (acting done)) (actions_text (shown (acting done)) first done.actions))
  where
    in_order : (a b c d e f : List ℕ) → ((a ++ b ++ c) ++ ((d ++ e) ++ f)) ≡ a ++ b ++ c ++ d ++ e ++ f
    in_order a b c d e f = simp append_assoc
