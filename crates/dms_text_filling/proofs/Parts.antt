-- Octets put into a buffer in parts.
use Rattle.std.proofs.Common.{◌≡◌, ℕ, ◌+◌, ◌≤◌, List, [], ◌++◌, length, ◌⊎◌, inl, inr, refl, sym, ap, ◌∙◌, subst, arith, length-append}
use Rattle.dms_text_filling.specs.Filling.{most_counted, counted, laid, Puts}
use Rattle.dms_text_filling.proofs.Laid.{either, laid_beyond, laid_more, laid_none, length-laid}

-- where a count stopped nothing more has a place
laid_counted : (place : ℕ) (octets buffer : List ℕ) → length buffer ≤ most_counted → laid (counted place) octets buffer ≡ laid place octets buffer
laid_counted place octets buffer reach = cases (either place most_counted)
  where
    cases : (place ≤ most_counted) ⊎ (most_counted ≤ place) → laid (counted place) octets buffer ≡ laid place octets buffer
    cases (inl less) = let same : counted place ≡ place = omega (arith, less) in ap (λ n. laid n octets buffer) same
    cases (inr more) =
        sym (laid_beyond (counted place) octets buffer (omega (arith, reach, more))) ∙ laid_beyond place octets buffer (omega (arith, reach, more))

pub two : {first second before middle after : List ℕ} {from between to : ℕ} → Puts first from before between middle → Puts second between middle to after
    → Puts (first ++ second) from before to after
two {first} {second} {before} {middle} {after} {from} {between} {to} one other = record {
  place = omega (arith, one.place, other.place, length-append first second);
  buffer =
      other.buffer ∙ ap (λ buffer. laid between second buffer) one.buffer
      ∙ ap (λ place. laid place second (laid from first before)) one.place
      ∙ laid_counted (from + length first) second (laid from first before) (omega (arith, one.reach, length-laid from first before))
      ∙ laid_more from (from + length first) first second before refl;
  reach = one.reach;
}

pub three : {a b c before s t after : List ℕ} {from i j to : ℕ}
    → Puts a from before i s → Puts b i s j t → Puts c j t to after
    → Puts (a ++ b ++ c) from before to after
three p1 p2 p3 = two (two p1 p2) p3

pub four : {a b c d before s t u after : List ℕ} {from i j k to : ℕ}
    → Puts a from before i s → Puts b i s j t → Puts c j t k u → Puts d k u to after
    → Puts (a ++ b ++ c ++ d) from before to after
four p1 p2 p3 p4 = two (three p1 p2 p3) p4

pub five : {a b c d e before s t u v after : List ℕ} {from i j k l to : ℕ}
    → Puts a from before i s → Puts b i s j t → Puts c j t k u → Puts d k u l v → Puts e l v to after
    → Puts (a ++ b ++ c ++ d ++ e) from before to after
five p1 p2 p3 p4 p5 = two (four p1 p2 p3 p4) p5

pub six : {a b c d e f before s t u v w after : List ℕ} {from i j k l m to : ℕ}
    → Puts a from before i s → Puts b i s j t → Puts c j t k u → Puts d k u l v → Puts e l v m w → Puts f m w to after
    → Puts (a ++ b ++ c ++ d ++ e ++ f) from before to after
six p1 p2 p3 p4 p5 p6 = two (five p1 p2 p3 p4 p5) p6

pub seven : {a b c d e f g before s t u v w x after : List ℕ} {from i j k l m n to : ℕ}
    → Puts a from before i s → Puts b i s j t → Puts c j t k u → Puts d k u l v → Puts e l v m w → Puts f m w n x → Puts g n x to after
    → Puts (a ++ b ++ c ++ d ++ e ++ f ++ g) from before to after
seven p1 p2 p3 p4 p5 p6 p7 = two (six p1 p2 p3 p4 p5 p6) p7

pub eight : {a b c d e f g h before s t u v w x y after : List ℕ} {from i j k l m n o to : ℕ}
    → Puts a from before i s → Puts b i s j t → Puts c j t k u → Puts d k u l v → Puts e l v m w → Puts f m w n x → Puts g n x o y → Puts h o y to after
    → Puts (a ++ b ++ c ++ d ++ e ++ f ++ g ++ h) from before to after
eight p1 p2 p3 p4 p5 p6 p7 p8 = two (seven p1 p2 p3 p4 p5 p6 p7) p8

pub nothing : (place : ℕ) (buffer : List ℕ) → place ≤ most_counted → length buffer ≤ most_counted → Puts [] place buffer place buffer
nothing place buffer counts reach = record { place = omega (arith, counts); buffer = laid_none place buffer; reach = reach }

-- the same octets
pub same : {octets other before after : List ℕ} {from to : ℕ} → octets ≡ other → Puts octets from before to after → Puts other from before to after
same {octets} {other} {before} {after} {from} {to} is puts = subst (λ octets. Puts octets from before to after) is puts
