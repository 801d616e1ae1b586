-- What a batch answers, with weights as values.
use Rattle.std.proofs.Common.{◌≡◌, inl, inr, ℕ, suc, ◌+◌, ◌≤◌, Bool, true, false, cond, List, [], ◌∷◌, ◌++◌, Some, drop, length, map, slice_get, refl, sym, ap, ap₂, ◌∙◌, subst, append_assoc, arith}
use Rattle.std.specs.List.{AllZip, flat_map}
use Rattle.fst_fields.specs.Lines.{in_front, is_line_end, lines_of}
use Rattle.fst_semiring.specs.Cost.{Cost}
use Rattle.fst_semiring.specs.declared.arc_type.ArcType.{ArcType}
use Rattle.fst_machine.specs.Graph.{Graph, graph_of}
use Rattle.fst_machine.specs.Machine.{Machine, valued}
use Rattle.fst_batch.specs.Answers.{IsAnswer}
use Rattle.fst_batch.specs.AnswerText.{answer_text, path_line}
use Rattle.fst_batch.specs.BestPaths.{IsListed, Told, valued_told}
use Rattle.fst_batch.specs.declared.answer.LineAnswer.{LineAnswer}
use Rattle.fst_batch.specs.declared.answer.LineAnswer.TheVariants.{Listed, Refused}
use Rattle.fst_lattice.specs.Lattice.{lattice}
use Rattle.fst_compose.specs.Answers.{IsSorted}
use Rattle.fst_compose.specs.Composition.{composed, composition}
use Rattle.fst_compose.specs.Faults.{compose_text}
use Rattle.fst_compose.specs.declared.fault.ComposeFault.TheVariants.{NotSorted}
use Rattle.fst_trim.specs.declared.side.Side.TheVariants.{Input, Output}
use Rattle.fst_trim.proofs.Valued.{IsSortedOn-valued}
use Rattle.fst_lattice.specs.Expansions.{IsExpansions}
use Rattle.fst_words.specs.declared.options.Options.{Options}
use Rattle.fst_verbs.specs.Batching.{AreAnswered, IsBatch, batch_text, lines_from, valued_answer}
use Rattle.fst_verbs.specs.Causes.{faulty, refused, unmade}
use Rattle.fst_verbs.specs.Composing.{state_limit}
use Rattle.fst_verbs.specs.Listing.{path_count}
use Rattle.fst_verbs.specs.Meaning.{Declines, Passes, Stops, answered}
use Rattle.fst_verbs.specs.Told.{IsMade}
use Rattle.fst_verbs.specs.declared.refusal.Refusal.{Refusal}
use Rattle.fst_verbs.proofs.Refusing.{declines_made}
use Rattle.fst_nbest.proofs.Remaining.{drop_at}

module _ {V : Type 0} (kind : ArcType) (value : V → Cost) where
  -- the text of an answer is that of its values
  path_lines-valued : (number : ℕ) (told : List (Told V)) → flat_map (path_line kind value number) told ≡ flat_map (path_line kind (λ w. w) number) (map (valued_told value) told)
  path_lines-valued number [] = refl
  path_lines-valued number (t ∷ told) = ap (λ rest. path_line kind value number t ++ rest) (path_lines-valued number told)

  pub text-valued : (number : ℕ) (answer : LineAnswer V) → answer_text kind value number answer ≡ answer_text kind (λ w. w) number (valued_answer value answer)
  text-valued number (Listed []) = refl
  text-valued number (Listed (t ∷ told)) = path_lines-valued number (t ∷ told)
  text-valued number (Refused fault) = refl

  -- values of values are these
  told_costs : (told : List (Told V)) → map (valued_told value) told ≡ map (valued_told (λ w. w)) (map (valued_told value) told)
  told_costs [] = refl
  told_costs (t ∷ told) = ap (λ rest. valued_told value t ∷ rest) (told_costs told)

  -- an answer is one by its values
  pub answer-valued : {N : Type 0} (g : Graph N) (n limit : ℕ) (line : List ℕ) (answer : LineAnswer V) → IsAnswer kind g n limit line value answer → IsAnswer kind g n limit line (λ w. w) (valued_answer value answer)
  answer-valued g n limit line (Listed told) is = (is.0, subst (λ (ts : List (Told Cost)). IsListed kind (lattice line g) n ts) (told_costs told) is.1)
  answer-valued g n limit line (Refused fault) is = is

  pub answers-valued : {N : Type 0} (g : Graph N) (n limit : ℕ) (lines : List (List ℕ)) (answers : List (LineAnswer V))
      → AllZip (λ line answer. IsAnswer kind g n limit line value answer) lines answers
      → AllZip (λ line answer. IsAnswer kind g n limit line (λ w. w) answer) lines (map (valued_answer value) answers)
  answers-valued g n limit [] [] all = all
  answers-valued g n limit [] (a ∷ answers) all = all
  answers-valued g n limit (line ∷ lines) [] all = all
  answers-valued g n limit (line ∷ lines) (a ∷ answers) all = (answer-valued g n limit line a all.0, answers-valued g n limit lines answers all.1)

  -- one answer more is told
  pub lines_more : (xs : List (LineAnswer V)) (i : ℕ) (x : LineAnswer V) (old new whole : List ℕ) (number next : ℕ) → next ≡ suc number → slice_get xs i ≡ Some x
      → old ++ lines_from kind number (map (valued_answer value) (drop i xs)) ≡ whole → new ≡ old ++ answer_text kind value number x
      → new ++ lines_from kind next (map (valued_answer value) (drop (i + 1) xs)) ≡ whole
  lines_more xs i x old new whole number next is there so_far put =
      let rest = lines_from kind next (map (valued_answer value) (drop (i + 1) xs)) in
      let one : lines_from kind number (map (valued_answer value) (drop i xs)) ≡ answer_text kind value number x ++ rest =
      ap (λ (ys : List (LineAnswer V)). lines_from kind number (map (valued_answer value) ys)) (drop_at xs i x there)
      ∙ ap₂ (λ (t : List ℕ) (n : ℕ). t ++ lines_from kind n (map (valued_answer value) (drop (i + 1) xs))) (sym (text-valued number x)) (sym is) in
      ap (λ (o : List ℕ). o ++ rest) put ∙ (append_assoc old (answer_text kind value number x) rest ∙ (ap (λ (r : List ℕ). old ++ r) (sym one) ∙ so_far))

-- there are no more lines than bytes
pub few_lines : (bytes : List ℕ) → length (lines_of bytes) ≤ length bytes
few_lines [] = omega arith
few_lines (c ∷ cs) = go (is_line_end c) (few_lines cs) where
  go : (b : Bool) → length (lines_of cs) ≤ length cs → length (cond b ([] ∷ lines_of cs) (in_front c (lines_of cs))) ≤ suc (length cs)
  go true few = omega (arith, few)
  go false few = in_front_few (lines_of cs) few
    where
      in_front_few : (ls : List (List ℕ)) → length ls ≤ length cs → length (in_front c ls) ≤ suc (length cs)
      in_front_few [] h = omega arith
      in_front_few (l ∷ ls) h = omega (arith, h)

-- ---- the command

-- so many paths are asked for, with this limit
pub answered_by : (kind : ArcType) (a b : Machine Cost) (o : Options) (lines : List (List ℕ)) (answers : List (LineAnswer Cost)) (n limit expansions : ℕ) → n ≡ path_count o → limit ≡ state_limit o
    → AllZip (λ line answer. IsAnswer kind (composed kind (graph_of a) (graph_of b)) n limit line (λ w. w) answer) lines answers → IsExpansions lines (composed kind (graph_of a) (graph_of b)) limit expansions
    → AreAnswered kind a b o lines answers expansions
answered_by kind a b o lines answers n limit expansions count most each needed =
    let g = composed kind (graph_of a) (graph_of b) in
    record {
      each = subst (λ (k : ℕ). AllZip (λ line answer. IsAnswer kind g k (state_limit o) line (λ w. w) answer) lines answers) count
          (subst (λ (k : ℕ). AllZip (λ line answer. IsAnswer kind g n k line (λ w. w) answer) lines answers) most each);
      needed = subst (λ (k : ℕ). IsExpansions lines g k expansions) most needed;
    }

module _ {V : Type 0} (kind : ArcType) (value : V → Cost) (a b : Machine V) where
  sorted-valued : IsSorted a b → IsSorted (valued value a) (valued value b)
  sorted-valued (inl first) = inl ((IsSortedOn-valued value Output a).0 first)
  sorted-valued (inr second) = inr ((IsSortedOn-valued value Input b).0 second)

  valued-sorted : IsSorted (valued value a) (valued value b) → IsSorted a b
  valued-sorted (inl first) = inl ((IsSortedOn-valued value Output a).1 first)
  valued-sorted (inr second) = inr ((IsSortedOn-valued value Input b).1 second)

  -- what stops a batch of these two
  abbrev pub batch_stops : Stops
  batch_stops fault = (IsSorted (valued value a) (valued value b) → ⊥) × (fault ≡ unmade (compose_text NotSorted))

  pub unsorted_declines : (refusal : Refusal) → (IsSorted a b → ⊥) → IsMade (refused (faulty (unmade (compose_text NotSorted)))) refusal → Declines batch_stops refusal
  unsorted_declines refusal apart made = declines_made batch_stops (unmade (compose_text NotSorted)) refusal ((λ sorted. apart (valued-sorted sorted)), refl) made

  pub sorted_passes : IsSorted a b → Passes batch_stops
  sorted_passes sorted fault stops = stops.0 (sorted-valued sorted)

  pub is_batch : (o : Options) (lines : List (List ℕ)) (answers : List (LineAnswer V)) (n limit expansions : ℕ) (text : List ℕ) → n ≡ path_count o → limit ≡ state_limit o
      → AllZip (λ line answer. IsAnswer kind (composition kind value a b) n limit line value answer) lines answers → IsExpansions lines (composition kind value a b) limit expansions
      → text ≡ batch_text kind o lines (map (valued_answer value) answers) expansions → IsBatch kind (valued value a) (valued value b) o lines (answered text expansions)
  is_batch o lines answers n limit expansions text count most each needed is = record {
    answers = map (valued_answer value) answers;
    expansions = expansions;
    are = answered_by kind (valued value a) (valued value b) o lines (map (valued_answer value) answers) n limit expansions count most (answers-valued kind value (composition kind value a b) n limit lines answers each) needed;
    is = ap (λ (t : List ℕ). answered t expansions) is;
  }
