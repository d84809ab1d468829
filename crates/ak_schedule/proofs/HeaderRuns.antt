-- Nine header lines are read as exactly the settings that they spell.
use Rattle.std.proofs.Common.{◌≡◌, ℕ, ◌+◌, ◌≤◌, List, [], ◌∷◌, length, refl, sym, ap, ◌∙◌, subst, arith}
use Rattle.std.specs.Prelude.{Some, slice_get}
use Rattle.std.proofs.lemmas.Slice.Zip.{AllZip-long}
use Rattle.ak_schedule.specs.declared.draft.Header.{Header}
use Rattle.ak_schedule.specs.declared.draft.Header as header
use Rattle.ak_schedule.specs.Line.{words, most_bytes}
use Rattle.ak_settings.specs.Settings.{SettingsModel}
use Rattle.ak_schedule.specs.Schedule.{headers, Sets, SpellsValue, SpellsSettings}
use Rattle.ak_schedule.specs.Draft.{Drafted, first_draft, ReadsHeader, ReadsHeaders, all_read}

counted : (lines : List (List ℕ)) (old new : Drafted) → ReadsHeaders lines old new → new.read ≡ old.read + length lines
counted [] old new is = let same = ap (λ (d : Drafted). d.read) is in omega (arith, same)
counted (line ∷ rest) old new (next, read, more) = let later = counted rest next new more in let one = read.count in omega (arith, later, one)

-- the header of a number
sets_at : (k : ℕ) (which : Header) (line : List ℕ) (old new : Drafted) → slice_get headers k ≡ Some which → old.read ≡ k → ReadsHeader line old new
    → (length line ≤ most_bytes) × Sets which (words line) old.settings new.settings × (new.read ≡ k + 1)
sets_at k which line old new is at read =
    let there : slice_get headers old.read ≡ Some which = ap (slice_get headers) at ∙ is in
    let same : read.which ≡ which = cc (read.next, there) in (
      read.sets.short,
      subst (λ (h : Header). Sets h (words line) old.settings new.settings) same read.sets.words,
      let one = read.count in omega (arith, one, at),
    )

pub read_spells : (headings : List (List ℕ)) (s : SettingsModel) → ReadsHeaders headings first_draft (all_read s) → SpellsSettings headings s
read_spells [] s chain = absurd (let n = counted [] first_draft (all_read s) chain in omega arith)
read_spells (a ∷ []) s chain = absurd (let n = counted (a ∷ []) first_draft (all_read s) chain in omega arith)
read_spells (a ∷ b ∷ []) s chain = absurd (let n = counted (a ∷ b ∷ []) first_draft (all_read s) chain in omega arith)
read_spells (a ∷ b ∷ c ∷ []) s chain = absurd (let n = counted (a ∷ b ∷ c ∷ []) first_draft (all_read s) chain in omega arith)
read_spells (a ∷ b ∷ c ∷ d ∷ []) s chain = absurd (let n = counted (a ∷ b ∷ c ∷ d ∷ []) first_draft (all_read s) chain in omega arith)
read_spells (a ∷ b ∷ c ∷ d ∷ e ∷ []) s chain = absurd (let n = counted (a ∷ b ∷ c ∷ d ∷ e ∷ []) first_draft (all_read s) chain in omega arith)
read_spells (a ∷ b ∷ c ∷ d ∷ e ∷ f ∷ []) s chain = absurd (let n = counted (a ∷ b ∷ c ∷ d ∷ e ∷ f ∷ []) first_draft (all_read s) chain in omega arith)
read_spells (a ∷ b ∷ c ∷ d ∷ e ∷ f ∷ g ∷ []) s chain = absurd (let n = counted (a ∷ b ∷ c ∷ d ∷ e ∷ f ∷ g ∷ []) first_draft (all_read s) chain in omega arith)
read_spells (a ∷ b ∷ c ∷ d ∷ e ∷ f ∷ g ∷ h ∷ []) s chain = absurd (let n = counted (a ∷ b ∷ c ∷ d ∷ e ∷ f ∷ g ∷ h ∷ []) first_draft (all_read s) chain in omega arith)
read_spells (a ∷ b ∷ c ∷ d ∷ e ∷ f ∷ g ∷ h ∷ i ∷ x ∷ more) s chain = absurd (let n = counted (a ∷ b ∷ c ∷ d ∷ e ∷ f ∷ g ∷ h ∷ i ∷ x ∷ more) first_draft (all_read s) chain in omega arith)
read_spells (a ∷ b ∷ c ∷ d ∷ e ∷ f ∷ g ∷ h ∷ i ∷ []) s (d0, r0, (d1, r1, (d2, r2, (d3, r3, (d4, r4, (d5, r5, (d6, r6, (d7, r7, (d8, r8, end))))))))) =
    let s0 = sets_at 0 header.TheVariants.Listed a first_draft d0 refl refl r0 in
    let s1 = sets_at 1 header.TheVariants.Strategy b d0 d1 refl s0.2 r1 in
    let s2 = sets_at 2 header.TheVariants.Margin c d1 d2 refl s1.2 r2 in
    let s3 = sets_at 3 header.TheVariants.Deadline d d2 d3 refl s2.2 r3 in
    let s4 = sets_at 4 header.TheVariants.Stable e d3 d4 refl s3.2 r4 in
    let s5 = sets_at 5 header.TheVariants.Shards f d4 d5 refl s4.2 r5 in
    let s6 = sets_at 6 header.TheVariants.Buffer g d5 d6 refl s5.2 r6 in
    let s7 = sets_at 7 header.TheVariants.Threshold h d6 d7 refl s6.2 r7 in
    let s8 = sets_at 8 header.TheVariants.Limit i d7 d8 refl s7.2 r8 in
    let whole : s ≡ record { listed = s0.1.0; strategy = s1.1.0; margin = s2.1.0; deadline = s3.1.0; stable = s4.1.0; shards = s5.1.0; buffer = s6.1.0; threshold = s7.1.0; limit = s8.1.0; weakly = 0; role = s0.1.0; types = [] } = ap (λ (x : Drafted). x.settings) end ∙ s8.1.2 ∙ ap (λ (x : SettingsModel). record x { limit = s8.1.0 }) (s7.1.2 ∙ ap (λ (x : SettingsModel). record x { threshold = s7.1.0 }) (s6.1.2 ∙ ap (λ (x : SettingsModel). record x { buffer = s6.1.0 }) (s5.1.2 ∙ ap (λ (x : SettingsModel). record x { shards = s5.1.0; types = [] }) (s4.1.2 ∙ ap (λ (x : SettingsModel). record x { stable = s4.1.0 }) (s3.1.2 ∙ ap (λ (x : SettingsModel). record x { deadline = s3.1.0 }) (s2.1.2 ∙ ap (λ (x : SettingsModel). record x { margin = s2.1.0 }) (s1.1.2 ∙ ap (λ (x : SettingsModel). record x { strategy = s1.1.0 }) (s0.1.2)))))))) in
    subst (SpellsSettings (a ∷ b ∷ c ∷ d ∷ e ∷ f ∷ g ∷ h ∷ i ∷ [])) (sym whole) (((s0.0, s0.1.1), ((s1.0, s1.1.1), ((s2.0, s2.1.1), ((s3.0, s3.1.1), ((s4.0, s4.1.1), ((s5.0, s5.1.1), ((s6.0, s6.1.1), ((s7.0, s7.1.1), ((s8.0, s8.1.1), tt))))))))), record { weakly = refl; role = refl; types = refl })

pub spelled_read : (headings : List (List ℕ)) (s : SettingsModel) → SpellsSettings headings s → ReadsHeaders headings first_draft (all_read s)
spelled_read [] s spelled = absurd (let n = AllZip-long (λ which line. (length line ≤ most_bytes) × SpellsValue which (words line) s) headers [] spelled.0 in omega arith)
spelled_read (a ∷ []) s spelled = absurd (let n = AllZip-long (λ which line. (length line ≤ most_bytes) × SpellsValue which (words line) s) headers (a ∷ []) spelled.0 in omega arith)
spelled_read (a ∷ b ∷ []) s spelled = absurd (let n = AllZip-long (λ which line. (length line ≤ most_bytes) × SpellsValue which (words line) s) headers (a ∷ b ∷ []) spelled.0 in omega arith)
spelled_read (a ∷ b ∷ c ∷ []) s spelled = absurd (let n = AllZip-long (λ which line. (length line ≤ most_bytes) × SpellsValue which (words line) s) headers (a ∷ b ∷ c ∷ []) spelled.0 in omega arith)
spelled_read (a ∷ b ∷ c ∷ d ∷ []) s spelled = absurd (let n = AllZip-long (λ which line. (length line ≤ most_bytes) × SpellsValue which (words line) s) headers (a ∷ b ∷ c ∷ d ∷ []) spelled.0 in omega arith)
spelled_read (a ∷ b ∷ c ∷ d ∷ e ∷ []) s spelled = absurd (let n = AllZip-long (λ which line. (length line ≤ most_bytes) × SpellsValue which (words line) s) headers (a ∷ b ∷ c ∷ d ∷ e ∷ []) spelled.0 in omega arith)
spelled_read (a ∷ b ∷ c ∷ d ∷ e ∷ f ∷ []) s spelled = absurd (let n = AllZip-long (λ which line. (length line ≤ most_bytes) × SpellsValue which (words line) s) headers (a ∷ b ∷ c ∷ d ∷ e ∷ f ∷ []) spelled.0 in omega arith)
spelled_read (a ∷ b ∷ c ∷ d ∷ e ∷ f ∷ g ∷ []) s spelled = absurd (let n = AllZip-long (λ which line. (length line ≤ most_bytes) × SpellsValue which (words line) s) headers (a ∷ b ∷ c ∷ d ∷ e ∷ f ∷ g ∷ []) spelled.0 in omega arith)
spelled_read (a ∷ b ∷ c ∷ d ∷ e ∷ f ∷ g ∷ h ∷ []) s spelled = absurd (let n = AllZip-long (λ which line. (length line ≤ most_bytes) × SpellsValue which (words line) s) headers (a ∷ b ∷ c ∷ d ∷ e ∷ f ∷ g ∷ h ∷ []) spelled.0 in omega arith)
spelled_read (a ∷ b ∷ c ∷ d ∷ e ∷ f ∷ g ∷ h ∷ i ∷ x ∷ more) s spelled = absurd (let n = AllZip-long (λ which line. (length line ≤ most_bytes) × SpellsValue which (words line) s) headers (a ∷ b ∷ c ∷ d ∷ e ∷ f ∷ g ∷ h ∷ i ∷ x ∷ more) spelled.0 in omega arith)
spelled_read (a ∷ b ∷ c ∷ d ∷ e ∷ f ∷ g ∷ h ∷ i ∷ []) s ((p0, (p1, (p2, (p3, (p4, (p5, (p6, (p7, (p8, u))))))))), none) =
    let t0 : SettingsModel = record (first_draft.settings) { listed = s.listed; role = s.listed } in
    let t1 : SettingsModel = record (t0) { strategy = s.strategy } in
    let t2 : SettingsModel = record (t1) { margin = s.margin } in
    let t3 : SettingsModel = record (t2) { deadline = s.deadline } in
    let t4 : SettingsModel = record (t3) { stable = s.stable } in
    let t5 : SettingsModel = record (t4) { shards = s.shards } in
    let t6 : SettingsModel = record (t5) { buffer = s.buffer } in
    let t7 : SettingsModel = record (t6) { threshold = s.threshold } in
    let t8 : SettingsModel = record (t7) { limit = s.limit } in
    (record { read = 1; extra = 0; settings = t0 }, record { which = header.TheVariants.Listed; next = refl; sets = record { short = p0.0; words = (s.listed, p0.1, refl) }; count = refl; same_extra = refl }, (record { read = 2; extra = 0; settings = t1 }, record { which = header.TheVariants.Strategy; next = refl; sets = record { short = p1.0; words = (s.strategy, p1.1, refl) }; count = refl; same_extra = refl }, (record { read = 3; extra = 0; settings = t2 }, record { which = header.TheVariants.Margin; next = refl; sets = record { short = p2.0; words = (s.margin, p2.1, refl) }; count = refl; same_extra = refl }, (record { read = 4; extra = 0; settings = t3 }, record { which = header.TheVariants.Deadline; next = refl; sets = record { short = p3.0; words = (s.deadline, p3.1, refl) }; count = refl; same_extra = refl }, (record { read = 5; extra = 0; settings = t4 }, record { which = header.TheVariants.Stable; next = refl; sets = record { short = p4.0; words = (s.stable, p4.1, refl) }; count = refl; same_extra = refl }, (record { read = 6; extra = 0; settings = t5 }, record { which = header.TheVariants.Shards; next = refl; sets = record { short = p5.0; words = (s.shards, p5.1, refl) }; count = refl; same_extra = refl }, (record { read = 7; extra = 0; settings = t6 }, record { which = header.TheVariants.Buffer; next = refl; sets = record { short = p6.0; words = (s.buffer, p6.1, refl) }; count = refl; same_extra = refl }, (record { read = 8; extra = 0; settings = t7 }, record { which = header.TheVariants.Threshold; next = refl; sets = record { short = p7.0; words = (s.threshold, p7.1, refl) }; count = refl; same_extra = refl }, (record { read = 9; extra = 0; settings = t8 }, record { which = header.TheVariants.Limit; next = refl; sets = record { short = p8.0; words = (s.limit, p8.1, refl) }; count = refl; same_extra = refl }, (λ i. record { read = 9; extra = 0; settings = record s { weakly = none.weakly i; role = none.role i; types = none.types i } }))))))))))
