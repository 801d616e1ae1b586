-- `batch` has one outcome.
use Rattle.std.proofs.Common.{◌≡◌, ◌≤◌, ℕ, List, [], ◌∷◌, length, refl, sym, ap, ap₂, ◌∙◌, arith}
use Rattle.std.specs.List.{AllZip}
use Rattle.fst_semiring.specs.Cost.{Cost}
use Rattle.fst_semiring.specs.declared.arc_type.ArcType.{ArcType}
use Rattle.fst_machine.specs.Graph.{Graph, graph_of}
use Rattle.fst_machine.specs.Machine.{Machine}
use Rattle.fst_machine.proofs.Elements.{Apart_within}
use Rattle.fst_compose.specs.Composition.{composed}
use Rattle.fst_lattice.specs.Expansions.{IsExpansions}
use Rattle.fst_batch.specs.Answers.{IsAnswer}
use Rattle.fst_batch.specs.declared.answer.LineAnswer.{LineAnswer}
use Rattle.fst_batch.proofs.OneAnswer.{one_answer}
use Rattle.fst_words.specs.declared.options.Options.{Options}
use Rattle.fst_verbs.specs.Batching.{AreAnswered, IsBatch, batch_text}
use Rattle.fst_verbs.specs.Composing.{state_limit}
use Rattle.fst_verbs.specs.Listing.{path_count}
use Rattle.fst_binary.specs.Sides.{neither}
use Rattle.fst_verbs.specs.Meaning.{answered, bytes_of, for_two, Made}
use Rattle.fst_verbs.specs.OneMeaning.{One}

-- the lines need one number of states
one_number : {N : Type 0} (lines : List (List ℕ)) (g : Graph N) (limit a b : ℕ) → IsExpansions lines g limit a → IsExpansions lines g limit b → a ≡ b
one_number lines g limit a b one other =
    let low : length one.names ≤ length other.names = Apart_within one.names other.names one.needed.apart (λ n h. other.needed.all n (one.needed.needed n h)) in
    let high : length other.names ≤ length one.names = Apart_within other.names one.names other.needed.apart (λ n h. one.needed.all n (other.needed.needed n h)) in
    omega (arith, low, high, one.size, other.size)

-- they have one list of answers
one_list : {N : Type 0} (kind : ArcType) (g : Graph N) (n limit : ℕ) (lines : List (List ℕ)) (xs ys : List (LineAnswer Cost))
    → AllZip (λ line answer. IsAnswer kind g n limit line (λ w. w) answer) lines xs → AllZip (λ line answer. IsAnswer kind g n limit line (λ w. w) answer) lines ys → xs ≡ ys
one_list kind g n limit [] [] [] one two = refl
one_list kind g n limit [] [] (y ∷ ys) one two = absurd two
one_list kind g n limit [] (x ∷ xs) ys one two = absurd one
one_list kind g n limit (l ∷ ls) [] ys one two = absurd one
one_list kind g n limit (l ∷ ls) (x ∷ xs) [] one two = absurd two
one_list kind g n limit (l ∷ ls) (x ∷ xs) (y ∷ ys) one two =
    ap₂ (λ (x : LineAnswer Cost) (rest : List (LineAnswer Cost)). x ∷ rest) (one_answer kind g n limit l (λ w. w) (λ v w e. e) x y one.0 two.0) (one_list kind g n limit ls xs ys one.1 two.1)

-- they are answered once
pub one_answered : (kind : ArcType) (a b : Machine Cost) (o : Options) (lines : List (List ℕ)) (xs ys : List (LineAnswer Cost)) (d e : ℕ)
    → AreAnswered kind a b o lines xs d → AreAnswered kind a b o lines ys e → (xs ≡ ys) × (d ≡ e)
one_answered kind a b o lines xs ys d e one two =
    let g = composed kind (graph_of a) (graph_of b) in (
      one_list kind g (path_count o) (state_limit o) lines xs ys one.each two.each,
      one_number lines g (state_limit o) d e one.needed two.needed,
    )

pub one_batch : (kind : ArcType) (a b : Machine Cost) (o : Options) (lines : List (List ℕ)) → One (IsBatch kind a b o lines)
one_batch kind a b o lines x y one two =
    let same = one_answered kind a b o lines one.answers two.answers one.expansions two.expansions one.are two.are in
    one.is ∙ (ap₂ (λ (list : List (LineAnswer Cost)) (e : ℕ). answered (batch_text kind o lines list e) e) same.0 same.1 ∙ sym two.is)

-- it makes one output
pub batch_count : (ms : List (Machine Cost)) (kind : ArcType) (o : Options) (lines : List (List ℕ)) (made : Made) → for_two ms (λ a b. IsBatch kind a b o lines made) → length (bytes_of neither made) ≡ 1
batch_count [] kind o lines made is = absurd is
batch_count (a ∷ []) kind o lines made is = absurd is
batch_count (a ∷ b ∷ []) kind o lines made is = ap (λ (m : Made). length (bytes_of neither m)) is.is
batch_count (a ∷ b ∷ c ∷ ms) kind o lines made is = absurd is
