-- The totals of answers, one answer after the other; what `make` has made, and that it is one.
use Rattle.std.proofs.Common.{◌≡◌, ◌≤◌, ℕ, ◌+◌, ◌*◌, ◌<◌, ◌+ℤ◌, ℤ, pos, List, [], ◌∷◌, ◌++◌, Option, None, Some, fold, length, get_or, take, sym, ap, ap₂, ◌∙◌, subst, length-append, append-nil, arith}
use Rattle.std.specs.List.{AllZip, concat, cons_option}
use Rattle.std.proofs.lemmas.Int.{ints}
use Rattle.std.proofs.lemmas.List.{take_more}
use Rattle.std.proofs.lemmas.List.Elements.{filter_map-append}
use Rattle.std.proofs.lemmas.List.Sums.{fold-append}
use Rattle.fst_semiring.specs.Cost.{Cost}
use Rattle.fst_semiring.specs.Semiring.{IsSmall, IsWithin}
use Rattle.fst_semiring.specs.declared.arc_type.ArcType.TheVariants.{Tropical}
use Rattle.fst_machine.specs.Machine.{Machine, valued}
use Rattle.fst_trim.proofs.Valued.{valued_costs}
use Rattle.fst_compose.specs.Composition.{composition}
use Rattle.fst_lattice.specs.Cascade.{behind_second, drawn_lines, first_machine, second_machine}
use Rattle.fst_lattice.specs.Expansions.{IsExpansions}
use Rattle.fst_batch.specs.Answers.{IsAnswer}
use Rattle.fst_batch.specs.declared.answer.LineAnswer.{LineAnswer}
use Rattle.fst_words.specs.declared.options.Options.{Options}
use Rattle.fst_verbs.specs.Batching.{AreAnswered}
use Rattle.fst_verbs.specs.Composing.{state_limit}
use Rattle.fst_verbs.specs.Listing.{path_count}
use Rattle.fst_verbs.specs.Making.{IsCascade, first_weight, first_weights, line_count, lines_drawn, seed_of, total_lines, total_text}
use Rattle.fst_verbs.specs.Meaning.{answered}
use Rattle.fst_verbs.specs.OneMeaning.{One}
use Rattle.fst_verbs.proofs.Batched.{answered_by}
use Rattle.fst_verbs.proofs.DecidingBatching.{one_answered}

-- this is told of the answers before a place
pub record AreTold (answers : List (LineAnswer Cost)) (place answered : ℕ) (weights : ℤ) : Type 0 where
  pub count : answered ≡ length (first_weights (take place answers))
  pub sum : weights ≡ fold ◌+ℤ◌ (pos 0) (first_weights (take place answers))
  pub few : answered ≤ place
  pub small : IsWithin (place * 1000000000000000000) weights

-- one answer more is told
module _ (xs : List (LineAnswer Cost)) (i : ℕ) (x : LineAnswer Cost) (low : i < length xs) (is : x ≡ get_or xs i x) (a a' : ℕ) (w w' : ℤ) (told : AreTold xs i a w) where
  one_more : (o : Option ℤ) → first_weight x ≡ o → first_weights (take (i + 1) xs) ≡ first_weights (take i xs) ++ cons_option o []
  one_more o e =
      ap first_weights (take_more xs i x low ∙ ap (λ (y : LineAnswer Cost). take i xs ++ y ∷ []) (sym is))
      ∙ (filter_map-append first_weight (take i xs) (x ∷ []) ∙ ap (λ (p : Option ℤ). first_weights (take i xs) ++ cons_option p []) e)

  pub told-listed : (v : ℤ) → first_weight x ≡ Some v → IsSmall v → a' ≡ a + 1 → w' ≡ w +ℤ v → AreTold xs (i + 1) a' w'
  told-listed v e fits counts sums =
      let more = one_more (Some v) e in
      let size : length (first_weights (take (i + 1) xs)) ≡ length (first_weights (take i xs)) + 1 = ap length more ∙ length-append (first_weights (take i xs)) (v ∷ []) in
      let sum : fold ◌+ℤ◌ (pos 0) (first_weights (take (i + 1) xs)) ≡ fold ◌+ℤ◌ (pos 0) (first_weights (take i xs)) +ℤ v = ap (fold ◌+ℤ◌ (pos 0)) more ∙ fold-append ◌+ℤ◌ (pos 0) (first_weights (take i xs)) (v ∷ []) in
      record {
        count = counts ∙ (ap (λ (n : ℕ). n + 1) told.count ∙ sym size);
        sum = sums ∙ (ap (λ (n : ℤ). n +ℤ v) told.sum ∙ sym sum);
        few = omega (arith, told.few);
        small = omega (arith, ints);
      }

  pub told-unlisted : first_weight x ≡ None → a' ≡ a → w' ≡ w → AreTold xs (i + 1) a' w'
  told-unlisted e counts sums =
      let same : first_weights (take i xs) ≡ first_weights (take (i + 1) xs) = sym (one_more None e ∙ append-nil (first_weights (take i xs))) in
      record {
        count = counts ∙ (told.count ∙ ap length same);
        sum = sums ∙ (told.sum ∙ ap (fold ◌+ℤ◌ (pos 0)) same);
        few = omega (arith, told.few);
        small = omega (arith, ints);
      }

-- equal totals are told alike
pub told_alike : (first second : Machine Cost) (n k : ℕ) (listed found : ℕ) (w v : ℤ) (e : ℕ) → n ≡ k → listed ≡ found → w ≡ v → concat (total_lines first second n listed w e) ≡ concat (total_lines first second k found v e)
told_alike first second n k listed found w v e lines count sum =
    ap (λ (m : ℕ). concat (total_lines first second m listed w e)) lines ∙ ap₂ (λ (m : ℕ) (z : ℤ). concat (total_lines first second k m z e)) count sum

-- ---- the command

module _ (o : Options) where
  pub is_cascade : (seed count : ℕ) (a b : Machine Cost) (lines : List (List ℕ)) (answers : List (LineAnswer Cost)) (n limit expansions : ℕ) (text : List ℕ) → seed ≡ seed_of o → count ≡ line_count o
      → a ≡ first_machine seed → b ≡ second_machine seed → lines ≡ drawn_lines (behind_second seed) count → n ≡ path_count o → limit ≡ state_limit o
      → AllZip (λ line answer. IsAnswer Tropical (composition Tropical (λ w. w) a b) n limit line (λ w. w) answer) lines answers → IsExpansions lines (composition Tropical (λ w. w) a b) limit expansions
      → text ≡ total_text a b lines answers expansions → IsCascade o (answered text expansions)
  is_cascade seed count a b lines answers n limit expansions text from many a_is b_is lines_are paths most each needed told =
      let one : a ≡ first_machine (seed_of o) = a_is ∙ ap first_machine from in
      let two : b ≡ second_machine (seed_of o) = b_is ∙ ap second_machine from in
      let drawn : lines ≡ lines_drawn o = lines_are ∙ ap₂ (λ (s k : ℕ). drawn_lines (behind_second s) k) from many in
      let costs = answered_by Tropical (valued (λ w. w) a) (valued (λ w. w) b) o lines answers n limit expansions paths most each needed in
      let here : AreAnswered Tropical a b o lines answers expansions =
      subst (λ (m : Machine Cost). AreAnswered Tropical m b o lines answers expansions) (sym (valued_costs a)) (subst (λ (m : Machine Cost). AreAnswered Tropical (valued (λ w. w) a) m o lines answers expansions) (sym (valued_costs b)) costs) in
      record {
        answers = answers;
        expansions = expansions;
        are = subst (λ (m : Machine Cost). AreAnswered Tropical m (second_machine (seed_of o)) o (lines_drawn o) answers expansions) one
            (subst (λ (m : Machine Cost). AreAnswered Tropical a m o (lines_drawn o) answers expansions) two (subst (λ (ls : List (List ℕ)). AreAnswered Tropical a b o ls answers expansions) drawn here));
        is = ap (λ (t : List ℕ). answered t expansions)
            (told ∙ (ap (λ (ls : List (List ℕ)). total_text a b ls answers expansions) drawn
            ∙ ap₂ (λ (m k : Machine Cost). total_text m k (lines_drawn o) answers expansions) one two));
      }

  pub one_cascade : One (IsCascade o)
  one_cascade x y one two =
      let same = one_answered Tropical (first_machine (seed_of o)) (second_machine (seed_of o)) o (lines_drawn o) one.answers two.answers one.expansions two.expansions one.are two.are in
      one.is ∙ (ap₂ (λ (list : List (LineAnswer Cost)) (e : ℕ). answered (total_text (first_machine (seed_of o)) (second_machine (seed_of o)) (lines_drawn o) list e) e) same.0 same.1 ∙ sym two.is)
