-- Elements that are put into two lists, one after the other.
use Rattle.std.proofs.Common.{◌≡◌, List, [], ◌∷◌, ◌++◌, sym, ap, subst, ◌∙◌, append_assoc}
use Rattle.std.specs.List.Sorted.{IsPermutation}
use Rattle.std.proofs.lemmas.List.Elements.{All-append, All-cons, All-nil}
use Rattle.std.proofs.lemmas.List.Sorted.{IsPermutation-append, IsPermutation-append_comm, IsPermutation-append_left, IsPermutation-append_right, IsPermutation-refl, IsPermutation-sym, IsPermutation-to_front, IsPermutation-trans}
use Rattle.fst_select.specs.Tables.{ArePut}

module _ {X : Type 0} (Passes : X → Type 0) where
  pub none_put : (first second : List X) → ArePut Passes [] first second first second
  none_put first second = record {
    passing = [];
    others = [];
    all = IsPermutation-refl [];
    pass = All-nil Passes;
    fail = All-nil (λ (x : X). Passes x → ⊥);
    first = IsPermutation-refl first;
    second = IsPermutation-refl second;
  }

  pub passing_put : (x : X) (first second new : List X) → Passes x → IsPermutation (x ∷ first) new → ArePut Passes (x ∷ []) first second new second
  passing_put x first second new here put = record {
    passing = x ∷ [];
    others = [];
    all = IsPermutation-refl (x ∷ []);
    pass = All-cons Passes x [] here (All-nil Passes);
    fail = All-nil (λ (y : X). Passes y → ⊥);
    first = put;
    second = IsPermutation-refl second;
  }

  pub other_put : (x : X) (first second new : List X) → (Passes x → ⊥) → IsPermutation (x ∷ second) new → ArePut Passes (x ∷ []) first second first new
  other_put x first second new here put = record {
    passing = [];
    others = x ∷ [];
    all = IsPermutation-refl (x ∷ []);
    pass = All-nil Passes;
    fail = All-cons (λ (y : X). Passes y → ⊥) x [] here (All-nil (λ (y : X). Passes y → ⊥));
    first = IsPermutation-refl first;
    second = put;
  }

  -- what is put, then more
  put_then : (xs ys first second mid other new last : List X) → ArePut Passes xs first second mid other → ArePut Passes ys mid other new last → ArePut Passes (xs ++ ys) first second new last
  put_then xs ys first second mid other new last one two = record {
    passing = two.passing ++ one.passing;
    others = two.others ++ one.others;
    all = IsPermutation-trans (xs ++ ys) (ys ++ xs) ((two.passing ++ one.passing) ++ (two.others ++ one.others)) (IsPermutation-append_comm xs ys)
        (IsPermutation-trans (ys ++ xs) ((two.passing ++ two.others) ++ (one.passing ++ one.others)) ((two.passing ++ one.passing) ++ (two.others ++ one.others))
        (IsPermutation-append ys (two.passing ++ two.others) xs (one.passing ++ one.others) two.all one.all)
        (exchanged two.passing two.others one.passing one.others));
    pass = All-append Passes two.passing one.passing two.pass one.pass;
    fail = All-append (λ (x : X). Passes x → ⊥) two.others one.others two.fail one.fail;
    first = joined one.passing two.passing first mid new one.first two.first;
    second = joined one.others two.others second other last one.second two.second;
  }
    where
      joined : (us vs zs mid new : List X) → IsPermutation (us ++ zs) mid → IsPermutation (vs ++ mid) new → IsPermutation ((vs ++ us) ++ zs) new
      joined us vs zs mid new p q =
          subst (λ (l : List X). IsPermutation l new) (sym (append_assoc vs us zs)) (IsPermutation-trans (vs ++ (us ++ zs)) (vs ++ mid) new (IsPermutation-append_right vs (us ++ zs) mid p) q)

      exchanged : (us vs ws zs : List X) → IsPermutation ((us ++ vs) ++ (ws ++ zs)) ((us ++ ws) ++ (vs ++ zs))
      exchanged us vs ws zs =
          let inner : IsPermutation (vs ++ (ws ++ zs)) (ws ++ (vs ++ zs))
          = subst (λ (l : List X). IsPermutation l (ws ++ (vs ++ zs))) (append_assoc vs ws zs)
          (subst (λ (l : List X). IsPermutation ((vs ++ ws) ++ zs) l) (append_assoc ws vs zs) (IsPermutation-append_left zs (vs ++ ws) (ws ++ vs) (IsPermutation-append_comm vs ws))) in
          subst (λ (l : List X). IsPermutation l ((us ++ ws) ++ (vs ++ zs))) (sym (append_assoc us vs (ws ++ zs)))
          (subst (λ (l : List X). IsPermutation (us ++ (vs ++ (ws ++ zs))) l) (sym (append_assoc us ws (vs ++ zs))) (IsPermutation-append_right us (vs ++ (ws ++ zs)) (ws ++ (vs ++ zs)) inner))

  -- one element more is put before those that were
  pub put_done : (x : X) (xs first second mid other new last : List X) → ArePut Passes xs first second mid other → ArePut Passes (x ∷ []) mid other new last
      → ArePut Passes (x ∷ xs) first second new last
  put_done x xs first second mid other new last one two =
      let h = put_then xs (x ∷ []) first second mid other new last one two in
      record {
        passing = h.passing;
        others = h.others;
        all = IsPermutation-trans (x ∷ xs) (xs ++ x ∷ []) (h.passing ++ h.others) (IsPermutation-sym (xs ++ x ∷ []) (x ∷ xs) (IsPermutation-to_front xs x)) h.all;
        pass = h.pass;
        fail = h.fail;
        first = h.first;
        second = h.second;
      }

-- an element is taken from the end of those that are left
pub put_next : {X : Type 0} (whole left new : List X) (x : X) (done : List X) → left ≡ new ++ x ∷ [] → whole ≡ left ++ done → whole ≡ new ++ x ∷ done
put_next whole left new x done is before = before ∙ (ap (λ (l : List _). l ++ done) is ∙ append_assoc new (x ∷ []) done)
