use mathlib.Core.Path.{◌≡◌, ap, ◌∙◌}
use Prim.Native.Nat.{ℕ, ◌+◌}
use mathlib.Core.List.{List, ◌++◌, append_assoc}
use lib.ListN.{length, drop, replicate, length-append}
use lib.IntN.{ℤ}
use mir.Facts.{to_z-of_z}
use native.Mathlib.Omega.{arith}
use Rattle.numbers.specs.Number.{digits}
use Rattle.numbers.specs.Signed.{unsigned}
use Rattle.numbers.specs.Splice.{splice}
use Rattle.numbers.proofs.NumberLaws.{length_digits}
use Rattle.numbers.proofs.SpliceLaws.{put_next, splice-start}
use Rattle.message.specs.Cue.{cue_with}
use Rattle.message.proofs.cue_with.Goals as goal

-- `message::cue_with` meets its contract: five writes, each at the end of the one before, are one write of ten bytes.
-- five numbers of two bytes, written one after the other over zeros
five : (a b d e g : List ℕ) (s1 s2 s3 s4 s5 : List ℕ)
    → length a ≡ 2 → length b ≡ 2 → length d ≡ 2 → length e ≡ 2 → length g ≡ 2
    → s1 ≡ splice 0 a (replicate 24 0) → s2 ≡ splice 2 b s1 → s3 ≡ splice 4 d s2 → s4 ≡ splice 6 e s3 → s5 ≡ splice 8 g s4
    → s5 ≡ a ++ (b ++ (d ++ (e ++ (g ++ replicate 14 0))))
five a b d e g s1 s2 s3 s4 s5 la lb ld le lg p1 p2 p3 p4 p5 =
    let z : List ℕ = replicate 24 0 in
    let l2 : length (a ++ b) ≡ 4 = length-append a b ∙ (λ i. la i + lb i) in
    let l3 : length ((a ++ b) ++ d) ≡ 6 = length-append (a ++ b) d ∙ (λ i. l2 i + ld i) in
    let l4 : length (((a ++ b) ++ d) ++ e) ≡ 8 = length-append ((a ++ b) ++ d) e ∙ (λ i. l3 i + le i) in
    let l5 : length ((((a ++ b) ++ d) ++ e) ++ g) ≡ 10 = length-append (((a ++ b) ++ d) ++ e) g ∙ (λ i. l4 i + lg i) in
    let q2 : s2 ≡ splice 0 (a ++ b) z = put_next z 0 2 a b (omega arith) (omega arith) p1 p2 in
    let q3 : s3 ≡ splice 0 ((a ++ b) ++ d) z = put_next z 0 4 (a ++ b) d (omega arith) (omega arith) q2 p3 in
    let q4 : s4 ≡ splice 0 (((a ++ b) ++ d) ++ e) z = put_next z 0 6 ((a ++ b) ++ d) e (omega arith) (omega arith) q3 p4 in
    let q5 : s5 ≡ splice 0 ((((a ++ b) ++ d) ++ e) ++ g) z = put_next z 0 8 (((a ++ b) ++ d) ++ e) g (omega arith) (omega arith) q4 p5 in
    q5 ∙ splice-start ((((a ++ b) ++ d) ++ e) ++ g) z ∙ ap (λ (n : ℕ). ((((a ++ b) ++ d) ++ e) ++ g) ++ drop n z) l5 ∙ simp append_assoc

pub returns : goal.returns
unfolding cue_with
returns c =
    let lamp = c.before in
    let upright = lamp.before.before.before in
    let sideways = upright.before.before.before in
    let zoom = sideways.before.before.before in
    let focus = zoom.before.before.before in
    let a = focus.before.before in
    let bytes : ℤ → List ℕ = λ z. digits 2 (unsigned z) in
    let wide : (n : ℕ) → length (digits 2 n) ≡ 2 = length_digits 2 in
    five (bytes a.args.focus) (bytes a.args.zoom) (bytes a.args.sideways) (bytes a.args.upright) (digits 2 a.args.lamp)
    focus.put_i16.new.out zoom.put_i16-2.new.out sideways.put_i16-3.new.out upright.put_i16-4.new.out lamp.put_be.new.out
    (wide _) (wide _) (wide _) (wide _) (wide _)
    (focus.put_i16.ensures ∙ ap (λ (z : ℤ). splice 0 (bytes z) (replicate 24 0)) (to_z-of_z a.ranges.focus))
    (zoom.put_i16-2.ensures ∙ ap (λ (z : ℤ). splice 2 (bytes z) focus.put_i16.new.out) (to_z-of_z a.ranges.zoom))
    (sideways.put_i16-3.ensures ∙ ap (λ (z : ℤ). splice 4 (bytes z) zoom.put_i16-2.new.out) (to_z-of_z a.ranges.sideways))
    (upright.put_i16-4.ensures ∙ ap (λ (z : ℤ). splice 6 (bytes z) sideways.put_i16-3.new.out) (to_z-of_z a.ranges.upright))
    lamp.put_be.ensures
