-- What was printed of lines that were accepted is how each replay that begins with these lines begins.
use Rattle.std.proofs.Common.{◌≡◌, ℕ, ◌<◌, List, [], ◌∷◌, ◌++◌, length, refl, sym, ap, subst, inl, inr, ◌∙◌, arith, append_assoc, length-append}
use Rattle.std.specs.Prelude.{map, take}
use Rattle.std.specs.List.{concat}
use Rattle.std.proofs.Math.Seq.{take-append_seam}
use Rattle.std.proofs.lemmas.List.{map-append}
use Rattle.ak_schedule.specs.Line.{lines, begun, without_cr}
use Rattle.ak_schedule.proofs.Cutting.{begun_more}
use Rattle.ak_driver.specs.ReplayText.{Progress, Judgement, Ending, Replays, Accepts, IsTextOfEnded, IsFirstSteps, turn, at_start}
use Rattle.ak_driver.proofs.OneReplay.{one_judgement, not_refused}
use Rattle.ak_driver.proofs.SomeReplay.{some_from}
use Rattle.ak_driver.proofs.TextParts.{parts_of, joined, meet, parts_meet, meet_last}

-- ---- accepted lines, and others after them
pub goes_on : (p q : Progress) (ended others steps all : List (List ℕ)) (ending : Ending) → Accepts p ended steps q → Replays p (ended ++ others) all ending
    → (rest : List (List ℕ)) × (all ≡ steps ++ rest) × Replays q others rest ending
goes_on p q [] others steps all ending a r = (
  all,
  ap (λ (ss : List (List ℕ)). ss ++ all) (sym a.0),
  subst (λ (o : Progress). Replays o others all ending) (sym a.1) r,
)
goes_on p q (line ∷ ended) others steps all ending a (inl refused) = absurd (not_refused p line a.0 refused.0 a.1 refused.1)
goes_on p q (line ∷ ended) others steps all ending a (inr r) =
    let same : r.0 ≡ a.0 = one_judgement p line r.0 a.0 r.1 a.1 in
    let on = goes_on (turn p a.0).0 q ended others a.2 r.2 ending a.3 (subst (λ (j : Judgement). Replays (turn p j).0 (ended ++ others) r.2 ending) same r.3) in (
      on.0,
      r.4
          ∙ (λ i. (turn p (same i)).1 ++ on.1 i)
          ∙ sym (append_assoc (turn p a.0).1 a.2 on.0)
          ∙ ap (λ (ss : List (List ℕ)). ss ++ on.0) (sym a.4),
      on.2,
    )

-- ---- the lines that end in some first bytes are the first lines of all bytes
begun_ended : (ended parts : List (List ℕ)) → 0 < length parts → begun (ended ++ parts) ≡ ended ++ begun parts
begun_ended [] parts some = refl
begun_ended (line ∷ ended) parts some =
    begun_more line (ended ++ parts) (omega (arith, length-append ended parts, some)) ∙ ap (λ (ls : List (List ℕ)). line ∷ ls) (begun_ended ended parts some)

joined_some : (last : List ℕ) (parts : List (List ℕ)) → 0 < length (joined last parts)
joined_some last [] = omega arith
joined_some last (part ∷ parts) = omega arith

first_lines : (given more last : List ℕ) (ended : List (List ℕ)) → parts_of given ≡ ended ++ last ∷ []
    → (others : List (List ℕ)) × (lines (given ++ more) ≡ map without_cr ended ++ others)
first_lines given more last ended is =
    let left = joined last (parts_of more) in
    let parts : parts_of (given ++ more) ≡ ended ++ left =
    parts_meet given more ∙ ap (λ (ps : List (List ℕ)). meet ps (parts_of more)) is ∙ meet_last ended last (parts_of more) in (
      map without_cr (begun left),
      ap (λ (ps : List (List ℕ)). map without_cr (begun ps)) parts
          ∙ ap (map without_cr) (begun_ended ended left (joined_some last (parts_of more)))
          ∙ map-append without_cr ended (begun left),
    )

pub first_steps : (given more text : List ℕ) → IsTextOfEnded given text → IsFirstSteps (given ++ more) text
first_steps given more text (ended, last, parts, steps, q, accepts, is) =
    let all = some_from (lines (given ++ more)) at_start in
    let first = first_lines given more last ended parts in
    let on = goes_on at_start q (map without_cr ended) first.0 steps all.0 all.1 accepts (subst (λ (ls : List (List ℕ)). Replays at_start ls all.0 all.1) first.1 all.2) in
    (all.0, all.1, all.2, length steps, is ∙ ap concat (sym (ap (take (length steps)) on.1 ∙ take-append_seam steps on.0)))
