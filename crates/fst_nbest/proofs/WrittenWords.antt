-- The first words of a machine, written down as its first paths.
use Rattle.std.proofs.Common.{◌≡◌, ℕ, List, [], ◌∷◌, Some, map, refl, sym, ap, subst, ◌∙◌, arith}
use Rattle.std.specs.List.{All}
use Rattle.std.proofs.lemmas.Option.{same_Some}
use Rattle.fst_semiring.specs.Cost.{Cost, infinite}
use Rattle.fst_semiring.specs.declared.arc_type.ArcType.{ArcType}
use Rattle.fst_machine.specs.BreadthFirst.{Has}
use Rattle.fst_machine.specs.Graph.{Graph}
use Rattle.fst_machine.specs.Paths.{places}
use Rattle.fst_machine.specs.PathOrder.{WeightedPath, arc_places}
use Rattle.fst_machine.proofs.PathParts.{walk_of_path}
use Rattle.fst_nbest.specs.Words.{AreFirstWords, WeightedWord}
use Rattle.fst_nbest.specs.PathWords.{AreDistances, HasSolidArcs, path_words}
use Rattle.fst_nbest.specs.FirstPaths.{AreFirstPaths, IsTraceable, traced}
use Rattle.fst_nbest.specs.Listing.{AreSuccessfulWalks, IsSuccessfulWalk}
use Rattle.fst_nbest.proofs.Searches.{Has-map}
use Rattle.fst_nbest.proofs.PathWords.{first_paths, reaches, word_of_path}
use Rattle.fst_nbest.proofs.ClassLists.{all_traceable, all_traced}

spelled : {N : Type 0} (paths : List (WeightedPath N)) → map (λ (p : WeightedPath N). arc_places p.path) paths ≡ map (λ (w : WeightedWord). w.word) (map word_of_path paths)
spelled [] = refl
spelled (p ∷ paths) = ap (λ (l : List (List ℕ)). arc_places p.path ∷ l) (spelled paths)

module _ {N : Type 0} (kind : ArcType) (g : Graph N) (dist : N → Cost) (exact : AreDistances kind g dist) (firm : HasSolidArcs kind g) (start : N) (starts : g.start ≡ Some start) (n : ℕ) (words : List (List ℕ)) (listed : List WeightedWord)
    (first : AreFirstWords kind (path_words g dist) start n listed) (same : map (λ (w : WeightedWord). w.word) listed ≡ words) where
  abbrev paths : List (WeightedPath N)
  paths = (first_paths kind g dist exact firm start starts n listed first).0

  in_words : map (λ (p : WeightedPath N). arc_places p.path) paths ≡ words
  in_words = spelled paths ∙ (ap (map (λ (w : WeightedWord). w.word)) (first_paths kind g dist exact firm start starts n listed first).2 ∙ same)

  pub words_traceable : All (IsTraceable g start) words
  words_traceable = subst (All (IsTraceable g start)) in_words (all_traceable kind g start starts paths (first_paths kind g dist exact firm start starts n listed first).1.successful)

  pub words_written : (walks : List (List (N × ℕ))) → walks ≡ map (traced g start) words → AreFirstPaths kind g n walks
  words_written walks are =
      let r = first_paths kind g dist exact firm start starts n listed first in
      record {
        listed = paths;
        first = r.1;
        written = sym (all_traced kind g start starts paths r.1.successful) ∙ (ap (map (traced g start)) in_words ∙ sym are);
      }

-- the first paths are successful
pub first_walks : {N : Type 0} (kind : ArcType) (g : Graph N) (n : ℕ) (walks : List (List (N × ℕ))) → AreFirstPaths kind g n walks → AreSuccessfulWalks g walks
first_walks kind g n walks firsts walk there =
    let from = Has-map (λ (a : WeightedPath _). places a.path) firsts.listed walk (subst (λ (l : List (List (_ × ℕ))). Has l walk) (sym firsts.written) there) in
    let h = firsts.first.successful from.0 from.1 in
    subst (IsSuccessfulWalk g) from.2 (record { first = h.first; last = h.last; starts = h.starts; leads = walk_of_path g from.0.path h.first h.last h.leads; final = h.final })

-- where no path leads from the start to a final name, there are none
pub no_paths : {N : Type 0} (kind : ArcType) (g : Graph N) (dist : N → Cost) (exact : AreDistances kind g dist) (firm : HasSolidArcs kind g) (start : N) (starts : g.start ≡ Some start) (n : ℕ) → dist start ≡ infinite → AreFirstPaths kind g n []
no_paths kind g dist exact firm start starts n none = record {
  listed = [];
  first = record {
    few = omega arith;
    ascends = tt;
    successful = λ a there. absurd there;
    others = λ b h. absurd (
        let first : h.first ≡ start = same_Some h.first start (sym h.starts ∙ starts) in
        reaches kind g dist exact firm h.first h.last b.path (exact.start h.first h.starts) h.leads h.final (ap dist first ∙ none));
  };
  written = refl;
}
