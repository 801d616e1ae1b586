-- The machine of listed strings: what it relates, and the least state in which a weight is out of range.
use Rattle.std.proofs.Common.{◌≡◌, ◌≢◌, ◌↔◌, ◌⊎◌, inl, inr, ℕ, ◌+◌, ◌<◌, ◌≤◌, zero, suc, List, [], ◌∷◌, Option, None, Some, length, map, min, drop, slice_get, refl, sym, ap, subst, ◌∙◌, arith}
use Rattle.std.proofs.Math.Nat.{min-eq_left, min-eq_right, min-le_left, min-le_right}
use Rattle.std.specs.List.{All}
use Rattle.std.specs.Option.{IfSome, IfNone, MatchOption}
use Rattle.std.proofs.lemmas.Bool.{cases_lt}
use Rattle.std.proofs.lemmas.Option.{get_or_from_slice_get}
use Rattle.std.proofs.lemmas.List.{length-map}
use Rattle.std.proofs.lemmas.List.Elements.{All-cons, All-head, All-map, All-nil, All-tail}
use Rattle.std.proofs.lemmas.List.Sums.{sum_by-cons}
use Rattle.fst_semiring.specs.Cost.{Cost, infinite}
use Rattle.fst_semiring.specs.Semiring.{InRange, one_of, times}
use Rattle.fst_semiring.specs.declared.arc_type.ArcType.{ArcType}
use Rattle.fst_semiring.proofs.Laws.{one_not_zero, one_times}
use Rattle.fst_machine.specs.BreadthFirst.{Apart, Has}
use Rattle.fst_machine.specs.Graph.{graph_of}
use Rattle.fst_machine.specs.Letters.{Letter, before, input, output, product}
use Rattle.fst_machine.specs.Machine.{Machine, greatest_label}
use Rattle.fst_machine.specs.Paths.{letters}
use Rattle.fst_machine.specs.Relation.{IsSuccessful, Rel}
use Rattle.fst_machine.proofs.Arcs.{at_mapped}
use Rattle.fst_machine.proofs.Elements.{at_Has}
use Rattle.fst_determinize.proofs.Elements.{Has_map, map_Has}
use Rattle.fst_determinize.proofs.Runs.{All_Has}
use Rattle.fst_nbest.specs.Chains.{Chain, AreLetters, HaveLetters, chain_at, chained, letter_at}
use Rattle.fst_nbest.specs.Words.{WeightedWord}
use Rattle.fst_nbest.proofs.Chained.{EndAlike, EndsAs, SayChains, chained_say}
use Rattle.fst_nbest.proofs.Remaining.{drop_at}
use Rattle.fst_select.specs.StringChains.{EndsOut, IsLeastEnd, end_state, label_letter, lesser, string_chain}
use Rattle.fst_select.specs.Strings.{labels_listed, weighted}
use Rattle.fst_select.specs.declared.strings.StringWeight.{StringWeight}

-- a label that is not epsilon
abbrev pub IsLabel : ℕ → Type 0
IsLabel l = (1 ≤ l) × (l ≤ greatest_label)

-- ---- what a string says

module _ (kind : ArcType) where
  -- the letters of a machine
  word_letters : (word : List ℕ) → All IsLabel word → AreLetters (map (label_letter kind) word)
  word_letters [] good = tt
  word_letters (l ∷ word) good =
      let low : IsLabel l = All-head IsLabel l word good in
      (record { ilabel = low.1; olabel = low.1; weight = one_not_zero kind }, word_letters word (All-tail IsLabel l word good))

  -- both sides of the letters are the word
  before_label : (l : ℕ) (xs : List ℕ) → 1 ≤ l → before l xs ≡ l ∷ xs
  before_label zero xs low = absurd (omega (arith, low))
  before_label (suc n) xs low = refl

  input_word : (word : List ℕ) → All IsLabel word → input (map (label_letter kind) word) ≡ word
  input_word [] good = refl
  input_word (l ∷ word) good =
      let low : IsLabel l = All-head IsLabel l word good in
      before_label l (input (map (label_letter kind) word)) low.0 ∙ ap (λ (xs : List ℕ). l ∷ xs) (input_word word (All-tail IsLabel l word good))

  output_word : (word : List ℕ) → All IsLabel word → output (map (label_letter kind) word) ≡ word
  output_word [] good = refl
  output_word (l ∷ word) good =
      let low : IsLabel l = All-head IsLabel l word good in
      before_label l (output (map (label_letter kind) word)) low.0 ∙ ap (λ (xs : List ℕ). l ∷ xs) (output_word word (All-tail IsLabel l word good))

  -- their product is One
  product_word : (word : List ℕ) → product kind (map (label_letter kind) word) ≡ one_of kind
  product_word [] = refl
  product_word (l ∷ word) = one_times kind (product kind (map (label_letter kind) word)) ∙ product_word word

  string_weight : (word : List ℕ) (w : Cost) → times kind (product kind (map (label_letter kind) word)) w ≡ w
  string_weight word w = ap (λ (v : Cost). times kind v w) (product_word word) ∙ one_times kind w

module _ {V X : Type 0} (kind : ArcType) (value : X → Cost) where
  -- the chains of listed strings
  abbrev pub chains_of : List (StringWeight V X) → List Chain
  chains_of strings = map (string_chain kind) (map (weighted value) strings)

  pub have_letters : (strings : List (StringWeight V X)) → All (λ s. All IsLabel s.word) strings → HaveLetters (chains_of strings)
  have_letters [] good = tt
  have_letters (s ∷ strings) good =
      (word_letters kind s.word (All-head (λ (t : StringWeight V X). All IsLabel t.word) s strings good), have_letters strings (All-tail (λ (t : StringWeight V X). All IsLabel t.word) s strings good))

  pub chains-length : (strings : List (StringWeight V X)) → length (chains_of strings) ≡ length strings
  chains-length strings = length-map (map (weighted value) strings) (string_chain kind) ∙ length-map strings (weighted value)

  -- the chain of a string in its place, where the chains are known by another name
  pub chain_seen : (strings : List (StringWeight V X)) (cs : List Chain) (i : ℕ) (s : StringWeight V X) → chains_of strings ≡ cs → slice_get strings i ≡ Some s
      → string_chain kind (weighted value s) ≡ chain_at cs i
  chain_seen strings cs i s is e =
      sym (get_or_from_slice_get (chains_of strings) i (string_chain kind (weighted value s)) (record { letters = []; last = infinite })
      (at_mapped (string_chain kind) (map (weighted value) strings) i (weighted value s) (at_mapped (weighted value) strings i s e)))
      ∙ ap (λ (ds : List Chain). chain_at ds i) is

  pub string_low : (strings : List (StringWeight V X)) (cs : List Chain) (i : ℕ) → chains_of strings ≡ cs → i < length cs → i < length strings
  string_low strings cs i is low = let count : length (chains_of strings) ≡ length cs = ap length is in omega (arith, low, count, chains-length strings)

  pub count_seen : (strings : List (StringWeight V X)) (cs : List Chain) (i : ℕ) (s : StringWeight V X) → chains_of strings ≡ cs → slice_get strings i ≡ Some s
      → length s.word ≡ length (chain_at cs i).letters
  count_seen strings cs i s is e = sym (length-map s.word (label_letter kind)) ∙ ap (λ (c : Chain). length c.letters) (chain_seen strings cs i s is e)

  pub letter_seen : (strings : List (StringWeight V X)) (cs : List Chain) (i k l : ℕ) (s : StringWeight V X) → chains_of strings ≡ cs → slice_get strings i ≡ Some s → slice_get s.word k ≡ Some l
      → label_letter kind l ≡ letter_at (chain_at cs i).letters k
  letter_seen strings cs i k l s is e f =
      sym (get_or_from_slice_get (map (label_letter kind) s.word) k (label_letter kind l) (record { ilabel = 0; olabel = 0; weight = infinite }) (at_mapped (label_letter kind) s.word k l f))
      ∙ ap (λ (c : Chain). letter_at c.letters k) (chain_seen strings cs i s is e)

  -- ---- at most one of different words is empty

  none_empty : (v : Cost) (strings : List (StringWeight V X)) → (Has (map (λ (s : StringWeight V X). s.word) strings) [] → ⊥) → EndAlike v (chains_of strings)
  none_empty v [] none = tt
  none_empty v (s ∷ strings) none = (by_word s.word (value s.weight) (λ e. none (inl e)), none_empty v strings (λ h. none (inr h)))
    where
      by_word : (word : List ℕ) (last : Cost) → (word ≡ [] → ⊥) → EndsAs v (map (label_letter kind) word) last
      by_word [] last some = absurd (some refl)
      by_word (l ∷ word) last some = tt

  ends_alike : (strings : List (StringWeight V X)) → Apart (map (λ (s : StringWeight V X). s.word) strings) → (v : Cost) × EndAlike v (chains_of strings)
  ends_alike [] apart = (infinite, tt)
  ends_alike (s ∷ strings) apart = by_word s.word (value s.weight) apart.0 (ends_alike strings apart.1)
    where
      by_word : (word : List ℕ) (last : Cost) → (Has (map (λ (t : StringWeight V X). t.word) strings) word → ⊥) → ((v : Cost) × EndAlike v (chains_of strings))
          → (v : Cost) × (EndsAs v (map (label_letter kind) word) last × EndAlike v (chains_of strings))
      by_word [] last new rest = (last, (refl, none_empty last strings new))
      by_word (l ∷ word) last new rest = (rest.0, (tt, rest.1))

  -- ---- what the machine relates

  module _ (strings : List (StringWeight V X)) (good : All (λ s. All IsLabel s.word) strings) (apart : Apart (map (λ s. s.word) strings))
      (m : Machine Cost) (is : m ≡ chained (chains_of strings)) where
    all_say : SayChains kind (chains_of strings) (graph_of m)
    all_say = let alike = ends_alike strings apart in subst (λ (n : Machine Cost). SayChains kind (chains_of strings) (graph_of n)) (sym is) (chained_say kind alike.0 (chains_of strings) alike.1)

    -- the labels of a string that stands in the list
    labels_there : (a : WeightedWord) → Has (map (weighted value) strings) a → All IsLabel a.word
    labels_there a has = All_Has (λ (b : WeightedWord). All IsLabel b.word) (map (weighted value) strings) a (All-map (λ (b : WeightedWord). All IsLabel b.word) (weighted value) strings good) has

    listed_from : (x y : List ℕ) (w : Cost) → Rel kind (graph_of m) x y w → (x ≡ y) × (w ≢ infinite) × Has (map (weighted value) strings) (record { word = x; weight = w })
    listed_from x y w r =
        let path = r.says.path in
        let successful : IsSuccessful kind (graph_of m) path w =
        record { first = r.first; last = r.says.last; starts = r.starts; leads = r.says.leads; final = r.says.final; weight = r.says.weight } in
        let one = all_say.all path w successful in
        let from = map_Has (string_chain kind) (map (weighted value) strings) one.0 one.1 in
        let a = from.0 in
        let labels = labels_there a from.1 in
        let said : letters path ≡ map (label_letter kind) a.word = one.2 ∙ ap (λ (c : Chain). c.letters) (sym from.2) in
        let reads : a.word ≡ x = sym (r.says.reads ∙ (ap input said ∙ input_word kind a.word labels)) in
        let writes : a.word ≡ y = sym (r.says.writes ∙ (ap output said ∙ output_word kind a.word labels)) in
        let weighs : a.weight ≡ w = sym (one.3 ∙ (ap (λ (c : Chain). times kind (product kind c.letters) c.last) (sym from.2) ∙ string_weight kind a.word a.weight)) in
        let last : w ≡ (graph_of m).final r.says.last =
        r.says.weight ∙ (ap (λ (ls : List Letter). times kind (product kind ls) ((graph_of m).final r.says.last)) said ∙ string_weight kind a.word ((graph_of m).final r.says.last)) in
        (sym reads ∙ writes, (λ e. r.says.final (sym last ∙ e)), subst (λ (b : WeightedWord). Has (map (weighted value) strings) b) (λ i. record { word = reads i; weight = weighs i }) from.1)

    rel_of : (x y : List ℕ) (w : Cost) → (x ≡ y) × (w ≢ infinite) × Has (map (weighted value) strings) (record { word = x; weight = w }) → Rel kind (graph_of m) x y w
    rel_of x y w h =
        let a : WeightedWord = record { word = x; weight = w } in
        let labels = labels_there a h.2 in
        let s = all_say.each (string_chain kind a) (Has_map (string_chain kind) (map (weighted value) strings) a h.2) h.1 in
        record {
          first = s.successful.first;
          starts = s.successful.starts;
          says = record {
            path = s.path;
            last = s.successful.last;
            leads = s.successful.leads;
            final = s.successful.final;
            reads = sym (input_word kind x labels) ∙ ap input (sym s.said);
            writes = sym h.0 ∙ (sym (output_word kind x labels) ∙ ap output (sym s.said));
            weight = sym (string_weight kind x w) ∙ s.successful.weight;
          };
        }

    -- the listed strings, each to itself with its weight, unless that is Zero
    pub relates_listed : (x y : List ℕ) (w : Cost) → Rel kind (graph_of m) x y w ↔ ((x ≡ y) × (w ≢ infinite) × Has (map (weighted value) strings) (record { word = x; weight = w }))
    relates_listed x y w = (listed_from x y w, rel_of x y w)

-- ---- the least state in which a weight is out of range

-- a weight in range
abbrev pub Fits : WeightedWord → Type 0
Fits a = InRange a.weight

-- the number is at most this
abbrev pub AtMost : Option ℕ → ℕ → Type 0
AtMost None state = ⊥
AtMost (Some s) state = s ≤ state

-- The least state of the strings before the rest, which have so many labels.
pub record IsLeastBefore (all rest : List WeightedWord) (labels : ℕ) (least : Option ℕ) : Type 0 where
  pub ends : IfSome least (λ s. EndsOut 0 all s)
  pub later : (state : ℕ) → EndsOut labels rest state → EndsOut 0 all state
  pub others : (state : ℕ) → EndsOut 0 all state → AtMost least state ⊎ EndsOut labels rest state
  pub fits : IfNone least (All Fits rest → All Fits all)

pub least_begins : (all : List WeightedWord) → IsLeastBefore all all 0 None
least_begins all = record { ends = tt; later = λ state e. e; others = λ state e. inr e; fits = λ good. good }

lesser_left : (a b : Option ℕ) (state : ℕ) → AtMost a state → AtMost (lesser a b) state
lesser_left None b state low = absurd low
lesser_left (Some s) None state low = low
lesser_left (Some s) (Some t) state low = let l = min-le_left s t in omega (arith, low, l)

lesser_right : (a : Option ℕ) (t state : ℕ) → t ≤ state → AtMost (lesser a (Some t)) state
lesser_right None t state low = low
lesser_right (Some s) t state low = let l = min-le_right s t in omega (arith, low, l)

-- what holds of two numbers holds of the lesser
lesser_holds : (P : ℕ → Type 0) (s t : ℕ) → P s → P t → P (min s t)
lesser_holds P s t one two = by (cases_lt s t)
  where
    by : (s < t) ⊎ (t ≤ s) → P (min s t)
    by (inl below) = let low : s ≤ t = omega (arith, below) in subst P (sym (min-eq_left low)) one
    by (inr above) = subst P (sym (min-eq_right above)) two

module _ (all rest : List WeightedWord) (a : WeightedWord) (labels : ℕ) where
  ends_next : (least found : Option ℕ) → IsLeastBefore all (a ∷ rest) labels least → IfSome found (λ s. (s ≡ end_state labels a.word) × (InRange a.weight → ⊥))
      → IfSome (lesser least found) (λ s. EndsOut 0 all s)
  ends_next None None h some = tt
  ends_next None (Some t) h some = h.later t (inl some)
  ends_next (Some s) None h some = h.ends
  ends_next (Some s) (Some t) h some = lesser_holds (λ (n : ℕ). EndsOut 0 all n) s t h.ends (h.later t (inl some))

  others_next : (least found : Option ℕ) (state : ℕ) → IfSome found (λ s. (s ≡ end_state labels a.word) × (InRange a.weight → ⊥)) → IfNone found (InRange a.weight)
      → AtMost least state ⊎ EndsOut labels (a ∷ rest) state
      → AtMost (lesser least found) state ⊎ EndsOut (labels + length a.word) rest state
  others_next least found state some none (inl low) = inl (lesser_left least found state low)
  others_next least found state some none (inr (inr later)) = inr later
  others_next least None state some none (inr (inl here)) = absurd (here.1 none)
  others_next least (Some t) state some none (inr (inl here)) = let same : t ≡ state = some.0 ∙ sym here.0 in inl (lesser_right least t state (omega (arith, same)))

  fits_next : (least found : Option ℕ) → IsLeastBefore all (a ∷ rest) labels least → IfNone found (InRange a.weight) → IfNone (lesser least found) (All Fits rest → All Fits all)
  fits_next None None h none = λ good. h.fits (All-cons Fits a rest none good)
  fits_next None (Some t) h none = tt
  fits_next (Some s) None h none = tt
  fits_next (Some s) (Some t) h none = tt

  -- one more string is looked at
  pub least_next : (least found : Option ℕ) → IsLeastBefore all (a ∷ rest) labels least → IfSome found (λ s. (s ≡ end_state labels a.word) × (InRange a.weight → ⊥)) → IfNone found (InRange a.weight)
      → IsLeastBefore all rest (labels + length a.word) (lesser least found)
  least_next least found h some none = record {
    ends = ends_next least found h some;
    later = λ state e. h.later state (inr e);
    others = λ state e. others_next least found state some none (h.others state e);
    fits = fits_next least found h none;
  }

-- all strings were looked at
pub least_ends : (all : List WeightedWord) (labels : ℕ) (least : Option ℕ) → IsLeastBefore all [] labels least → MatchOption least (All Fits all) (IsLeastEnd all)
least_ends all labels None h = h.fits (All-nil Fits)
least_ends all labels (Some s) h = (h.ends, λ other e. low other (h.others other e))
  where
    low : (other : ℕ) → (s ≤ other) ⊎ ⊥ → s ≤ other
    low other (inl l) = l
    low other (inr none) = absurd none

-- where all weights are in range, no string ends with another
pub none_out : (strings : List WeightedWord) (labels state : ℕ) → All Fits strings → EndsOut labels strings state → ⊥
none_out [] labels state good none = none
none_out (a ∷ strings) labels state good (inl here) = here.1 (All-head Fits a strings good)
none_out (a ∷ strings) labels state good (inr later) = none_out strings (labels + length a.word) state (All-tail Fits a strings good) later

-- ---- the strings one by one

module _ {V X : Type 0} (value : X → Cost) (strings : List (StringWeight V X)) (i : ℕ) (s : StringWeight V X) (e : slice_get strings i ≡ Some s) where
  pub string_drop : drop i (map (weighted value) strings) ≡ weighted value s ∷ drop (i + 1) (map (weighted value) strings)
  string_drop = drop_at (map (weighted value) strings) i (weighted value s) (at_mapped (weighted value) strings i s e)

  pub labels_drop : labels_listed (drop i (map (weighted value) strings)) ≡ length s.word + labels_listed (drop (i + 1) (map (weighted value) strings))
  labels_drop = ap (λ (ws : List WeightedWord). labels_listed ws) string_drop ∙ sum_by-cons (λ (a : WeightedWord). length a.word) (weighted value s) (drop (i + 1) (map (weighted value) strings))

-- a string of those whose weights are in range
pub string_fits : {V X : Type 0} (value : X → Cost) (strings : List (StringWeight V X)) (i : ℕ) (s : StringWeight V X) → slice_get strings i ≡ Some s
    → All Fits (map (weighted value) strings) → InRange (value s.weight)
string_fits value strings i s e good = All_Has Fits (map (weighted value) strings) (weighted value s) good (Has_map (weighted value) strings s (at_Has strings i s e))
