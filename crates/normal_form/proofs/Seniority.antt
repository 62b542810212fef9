-- Seniority and the other operators, over an unknown lawful rule. The laws hold of every order that serves each class
-- once, so of both seniority letters. Assumes nothing.
use Rattle.std.proofs.Common.{◌≡◌, ℕ, ◌+◌, ◌-◌, ◌≤◌, min, Bool, true, false, cond, eqb, List, [], ◌∷◌, get_or, sym, refl, ap, ◌∙◌, subst, inl, inr, arith}
use Rattle.std.proofs.lemmas.Bool.{cases_Bool, eqb-true, eqb-false, eq-eqb}
use Rattle.division.specs.Amounts.{total, less, cut, plus, nothing}
use Rattle.division.specs.AmountLaws.{length-less, slice_index-less, length-cut, slice_index-cut, total-plus, total-nothing, total-within, same_amounts}
use Rattle.division.specs.Problem.{Meaning, Sound, Lawful}
use Rattle.operators.specs.Operators.{Classed, last_class, of_class, served, dual, truncation, rights, minimal_rights, senior_first, junior_first}
use Rattle.operators.specs.ClassLaws.{class_at, slice_index-of_class, is_of_class, not_of_class, length-of_class, class_sound, times_in, EachOnce, of_order, of_whole_order, share_of, place_served, each_class, senior_once, junior_once}
use Rattle.operators.specs.DualLawful.{loss_sound, dual_lawful}
use Rattle.operators.specs.TruncationLawful.{cut_covers, cut_sound}
use Rattle.operators.specs.RightsLawful.{rest_sound}
use Rattle.operators.specs.SeniorityLawful.{served_lawful}
use Rattle.normal_form.specs.Alike.{Agree}
use Rattle.normal_form.proofs.Exchange.{cut_again, reached, total-cut}

-- meanings that give the same awards on every sound problem whose claims all lie in one class
pub record AgreeInClass (classes : List ℕ) (f g : Meaning) : Type 0 where
  pub same : (k : ℕ) (claims : List ℕ) (estate : ℕ) → of_class k classes claims ≡ claims → Sound claims estate → f claims estate ≡ g claims estate

cond_cut : (b : Bool) (c top : ℕ) → cond b (min c top) 0 ≡ min (cond b c 0) top
cond_cut true c top = refl
cond_cut false c top = omega arith

-- the claims of a class, cut, are the cut claims of the class
of_class_cut : (k top : ℕ) (classes claims : List ℕ) → of_class k classes (cut top claims) ≡ cut top (of_class k classes claims)
of_class_cut k top classes claims =
    same_amounts (of_class k classes (cut top claims)) (cut top (of_class k classes claims))
    (omega (arith, length-of_class k classes (cut top claims), length-cut top claims, length-cut top (of_class k classes claims), length-of_class k classes claims))
    (λ i.
    slice_index-of_class k classes (cut top claims) i
    ∙ ap (λ x. cond (eqb (class_at classes i) k) x 0) (slice_index-cut top claims i)
    ∙ cond_cut (eqb (class_at classes i) k) (get_or claims i 0) top
    ∙ ap (λ x. min x top) (sym (slice_index-of_class k classes claims i))
    ∙ sym (slice_index-cut top (of_class k classes claims) i))

cond_again : (b : Bool) (c : ℕ) → cond b (cond b c 0) 0 ≡ cond b c 0
cond_again true c = refl
cond_again false c = refl

-- the claims of a class all lie in that class
of_class_again : (k : ℕ) (classes claims : List ℕ) → of_class k classes (of_class k classes claims) ≡ of_class k classes claims
of_class_again k classes claims =
    same_amounts (of_class k classes (of_class k classes claims)) (of_class k classes claims)
    (length-of_class k classes (of_class k classes claims))
    (λ i.
    slice_index-of_class k classes (of_class k classes claims) i
    ∙ ap (λ x. cond (eqb (class_at classes i) k) x 0) (slice_index-of_class k classes claims i)
    ∙ cond_again (eqb (class_at classes i) k) (get_or claims i 0)
    ∙ sym (slice_index-of_class k classes claims i))

module _ (classes : List ℕ) where
  pub in_class : {f g : Meaning} → Agree f g → AgreeInClass classes f g
  in_class a = record { same = λ k claims estate own s. a.same claims estate s }

  pub in_class_truncation : {f g : Meaning} → AgreeInClass classes f g → AgreeInClass classes (truncation f) (truncation g)
  in_class_truncation a = record {
    same = λ k claims estate own s.
        a.same k (cut estate claims) estate (of_class_cut k estate classes claims ∙ ap (cut estate) own) (cut_sound claims estate s);
  }

  pub in_class_rights : {f g : Meaning} → AgreeInClass classes f g → AgreeInClass classes (minimal_rights f) (minimal_rights g)
  in_class_rights a = record {
    same = λ k claims estate own s.
        let loss = total claims - estate in
        let mine = rights loss claims in
        let cut_own : of_class k classes (cut loss claims) ≡ cut loss claims = of_class_cut k loss classes claims ∙ ap (cut loss) own in
        let rest_own : of_class k classes (less claims mine) ≡ less claims mine = subst (λ xs. of_class k classes xs ≡ xs) (sym (reached loss claims)) cut_own in
        ap (plus mine) (a.same k (less claims mine) (estate - total mine) rest_own (rest_sound claims estate s));
  }

  served_same : (order : List ℕ) (f g : Meaning) → AgreeInClass classes f g → (claims : List ℕ) (estate : ℕ) → Sound claims estate → (left : ℕ) → served order classes f claims left ≡ served order classes g claims left
  served_same [] f g a claims estate s left = refl
  served_same (k ∷ order) f g a claims estate s left =
      let mine = of_class k classes claims in
      let share = min (total mine) left in
      ap (λ xs. plus xs (served order classes f claims (left - share))) (a.same k mine share (of_class_again k classes claims) (class_sound k classes claims estate s left))
      ∙ ap (plus (g mine share)) (served_same order f g a claims estate s (left - share))

  -- what a rule does within each class is all that serving the classes in turn uses of it
  pub under_order : (order : List ℕ) {f g : Meaning} → AgreeInClass classes f g → Agree (served order classes f) (served order classes g)
  under_order order {f} {g} a = record { same = λ claims estate s. served_same order f g a claims estate s estate }

-- where all claims lie in one class, no other class claims anything
other_class : (k j : ℕ) (classes claims : List ℕ) → of_class k classes claims ≡ claims → eqb k j ≡ false → total (of_class j classes claims) ≡ 0
other_class k j classes claims own differs =
    let none : (i : ℕ) → get_or (of_class j classes claims) i 0 ≤ 0 = λ i.
    elim (cases_Bool (eqb (class_at classes i) j)) [
      | inl e ↦
          (let mine : get_or (of_class j classes claims) i 0 ≡ get_or claims i 0 = is_of_class j classes claims i e in
          elim (cases_Bool (eqb (class_at classes i) k)) [
            | inl e' ↦ absurd (eqb-false k j differs (sym (eqb-true (class_at classes i) k e') ∙ eqb-true (class_at classes i) j e))
            | inr e' ↦ omega (arith, mine, not_of_class k classes claims i e', ap (λ xs. get_or xs i 0) own)
          ])
      | inr e ↦ omega (arith, not_of_class j classes claims i e)
    ] in
    omega (arith, total-within (of_class j classes claims) [] none)

-- and that class's share is the whole estate
whole_share : (k : ℕ) (order classes claims : List ℕ) (left : ℕ) → of_class k classes claims ≡ claims → times_in k order ≡ 1 → left ≤ total claims → share_of k order classes claims left ≡ left
whole_share k [] classes claims left own once fits = absurd (omega arith)
whole_share k (j ∷ order) classes claims left own once fits =
    let share = min (total (of_class j classes claims)) left in
    elim (cases_Bool (eqb k j)) [
      | inl e ↦
          (let same : total (of_class j classes claims) ≡ total claims = ap (λ n. total (of_class n classes claims)) (sym (eqb-true k j e)) ∙ ap total own in
          rw e (omega arith))
      | inr e ↦
          (let none : left - share ≡ left = omega (arith, other_class k j classes claims own e) in
          let later : times_in k order ≡ 1 = omega (arith, rw e at once) in
          rw e (ap (share_of k order classes claims) none ∙ whole_share k order classes claims left own later fits))
    ]

-- what the classes of an order claim
abbrev claimed_by : List ℕ → List ℕ → List ℕ → ℕ
claimed_by [] classes claims = 0
claimed_by (k ∷ order) classes claims = total (of_class k classes claims) + claimed_by order classes claims

-- what the classes before one claim
abbrev claimed_before : ℕ → List ℕ → List ℕ → List ℕ → ℕ
claimed_before k [] classes claims = 0
claimed_before k (j ∷ order) classes claims = cond (eqb k j) 0 (total (of_class j classes claims) + claimed_before k order classes claims)

-- what the classes behind one claim
abbrev claimed_behind : ℕ → List ℕ → List ℕ → List ℕ → ℕ
claimed_behind k [] classes claims = 0
claimed_behind k (j ∷ order) classes claims = cond (eqb k j) (claimed_by order classes claims) (claimed_behind k order classes claims)

total-of_order : (order classes claims : List ℕ) → total (of_order order classes claims) ≡ claimed_by order classes claims
total-of_order [] classes claims = total-nothing claims
total-of_order (k ∷ order) classes claims =
    omega (arith, total-plus (of_class k classes claims) (of_order order classes claims), total-of_order order classes claims)

all_claimed : (k : ℕ) (order classes claims : List ℕ) → times_in k order ≡ 1 → claimed_before k order classes claims + total (of_class k classes claims) + claimed_behind k order classes claims ≡ claimed_by order classes claims
all_claimed k [] classes claims once = absurd (omega arith)
all_claimed k (j ∷ order) classes claims once =
    elim (cases_Bool (eqb k j)) [
      | inl e ↦
          (let same : total (of_class j classes claims) ≡ total (of_class k classes claims) = ap (λ n. total (of_class n classes claims)) (sym (eqb-true k j e)) in
          rw e (omega arith))
      | inr e ↦
          (let later : times_in k order ≡ 1 = omega (arith, rw e at once) in
          let rest = all_claimed k order classes claims later in
          rw e (omega arith))
    ]

-- a class's share is the smaller of what it claims and what those before it leave
share_is : (k : ℕ) (order classes claims : List ℕ) (left : ℕ) → times_in k order ≡ 1 → share_of k order classes claims left ≡ min (total (of_class k classes claims)) (left - claimed_before k order classes claims)
share_is k [] classes claims left once = absurd (omega arith)
share_is k (j ∷ order) classes claims left once =
    let share = min (total (of_class j classes claims)) left in
    elim (cases_Bool (eqb k j)) [
      | inl e ↦
          (let same : total (of_class j classes claims) ≡ total (of_class k classes claims) = ap (λ n. total (of_class n classes claims)) (sym (eqb-true k j e)) in
          rw e (omega arith))
      | inr e ↦
          (let later : times_in k order ≡ 1 = omega (arith, rw e at once) in
          let rest = share_is k order classes claims (left - share) later in
          rw e (omega arith))
    ]

-- an order that serves each class once, and the same order from its end
pub record Mirrored (order mirror : List ℕ) : Type 0 where
  pub once : EachOnce order
  pub once_back : EachOnce mirror
  pub turns : (k : ℕ) → 1 ≤ k → k ≤ last_class → (classes claims : List ℕ) → claimed_before k mirror classes claims ≡ claimed_behind k order classes claims

-- the share of a class in a loss is what its share in the estate leaves unpaid, in the order from the other end
dual_share : (order mirror : List ℕ) → Mirrored order mirror → (classes : List ℕ) → Classed classes → (claims : List ℕ) (estate : ℕ) → estate ≤ total claims → (k : ℕ) → 1 ≤ k → k ≤ last_class → total (of_class k classes claims) - share_of k mirror classes claims estate ≡ share_of k order classes claims (total claims - estate)
dual_share order mirror m classes classed claims estate fits k low high =
    let here = share_is k order classes claims (total claims - estate) (m.once k low high) in
    let there = share_is k mirror classes claims estate (m.once_back k low high) in
    let whole : claimed_by order classes claims ≡ total claims = sym (total-of_order order classes claims) ∙ ap total (of_whole_order order classes claims m.once classed) in
    let all = all_claimed k order classes claims (m.once k low high) in
    let back = m.turns k low high classes claims in
    omega arith

nothing_cut : (top : ℕ) (xs : List ℕ) → nothing (cut top xs) ≡ nothing xs
nothing_cut top [] = refl
nothing_cut top (x ∷ xs) = ap (λ ys. 0 ∷ ys) (nothing_cut top xs)

-- claims above a cap that the estate does not reach need no cut where each class's claims are cut to its share
served_cut : (order classes : List ℕ) (f : Meaning) (claims : List ℕ) (top left : ℕ) → left ≤ top → served order classes (truncation f) (cut top claims) left ≡ served order classes (truncation f) claims left
served_cut [] classes f claims top left h = nothing_cut top claims
served_cut (k ∷ order) classes f claims top left h =
    let mine = of_class k classes claims in
    let share = min (total mine) left in
    let same : min (total (cut top mine)) left ≡ share = omega (arith, cut_covers top mine, total-cut top mine) in
    ap (λ xs. plus (f (cut (min (total xs) left) xs) (min (total xs) left)) (served order classes (truncation f) (cut top claims) (left - min (total xs) left))) (of_class_cut k top classes claims)
    ∙ ap (λ e. plus (f (cut e (cut top mine)) e) (served order classes (truncation f) (cut top claims) (left - e))) same
    ∙ ap (λ xs. plus (f xs share) (served order classes (truncation f) (cut top claims) (left - share))) (cut_again share top (omega arith) mine)
    ∙ ap (plus (f (cut share mine) share)) (served_cut order classes f claims top (left - share) (omega arith))

pub senior_mirrored : Mirrored senior_first junior_first
senior_mirrored = record {
  once = senior_once;
  once_back = junior_once;
  turns = each_class (λ k. (classes claims : List ℕ) → claimed_before k junior_first classes claims ≡ claimed_behind k senior_first classes claims)
      (λ classes claims. omega arith) (λ classes claims. omega arith) (λ classes claims. omega arith) (λ classes claims. omega arith)
      (λ classes claims. omega arith) (λ classes claims. omega arith) (λ classes claims. omega arith) (λ classes claims. omega arith);
}

pub junior_mirrored : Mirrored junior_first senior_first
junior_mirrored = record {
  once = junior_once;
  once_back = senior_once;
  turns = each_class (λ k. (classes claims : List ℕ) → claimed_before k senior_first classes claims ≡ claimed_behind k junior_first classes claims)
      (λ classes claims. omega arith) (λ classes claims. omega arith) (λ classes claims. omega arith) (λ classes claims. omega arith)
      (λ classes claims. omega arith) (λ classes claims. omega arith) (λ classes claims. omega arith) (λ classes claims. omega arith);
}

module _ (order classes : List ℕ) (once : EachOnce order) (classed : Classed classes) where
  -- a truncation outside a seniority letter does nothing where one lies inside
  pub truncation_of_served : (f : Meaning) → Agree (truncation (served order classes (truncation f))) (served order classes (truncation f))
  truncation_of_served f = record { same = λ claims estate s. served_cut order classes f claims estate estate (omega arith) }

  -- within one class a seniority letter does nothing
  pub within_one_class : (f : Meaning) → Lawful f → AgreeInClass classes (served order classes f) f
  within_one_class f law = record {
    same = λ k claims estate own s.
        let all = served order classes f claims estate in
        let part = f claims estate in
        let lawful = served_lawful order classes once classed f law claims estate s in
        let shared = law claims estate s in
        same_amounts all part (omega (arith, lawful.as_long, shared.as_long)) (λ i.
        let mine = class_at classes i in
        elim (cases_Bool (eqb mine k)) [
          | inl e ↦
              (let is : mine ≡ k = eqb-true mine k e in
              let own' : of_class mine classes claims ≡ claims = subst (λ j. of_class j classes claims ≡ claims) (sym is) own in
              let one : times_in mine order ≡ 1 = once mine (classed i).0 (classed i).1 in
              place_served order classes f law claims estate s estate i one
              ∙ ap (λ xs. get_or (f xs (share_of mine order classes claims estate)) i 0) own'
              ∙ ap (λ share. get_or (f claims share) i 0) (whole_share mine order classes claims estate own' one s.covered))
          | inr e ↦
              omega (arith, lawful.bounded i, shared.bounded i, not_of_class k classes claims i e, ap (λ xs. get_or xs i 0) own)
        ]);
  }

-- the dual of serving the classes in one order is serving them in the other
pub dual_of_served : (order mirror : List ℕ) → Mirrored order mirror → (classes : List ℕ) → Classed classes → (f : Meaning) → Lawful f → Agree (dual (served order classes f)) (served mirror classes (dual f))
dual_of_served order mirror m classes classed f law = record {
  same = λ claims estate s.
      let loss = total claims - estate in
      let lost = served order classes f claims loss in
      let paid = served mirror classes (dual f) claims estate in
      let lawful = served_lawful mirror classes m.once_back classed (dual f) (dual_lawful f law) claims estate s in
      same_amounts (less claims lost) paid (omega (arith, length-less claims lost, lawful.as_long)) (λ i.
      let k = class_at classes i in
      let mine = of_class k classes claims in
      let share = share_of k mirror classes claims estate in
      let here = place_served order classes f law claims loss (loss_sound claims estate s) loss i (m.once k (classed i).0 (classed i).1) in
      let there = place_served mirror classes (dual f) (dual_lawful f law) claims estate s estate i (m.once_back k (classed i).0 (classed i).1) in
      let turned_share = ap (λ e. get_or (f mine e) i 0) (dual_share order mirror m classes classed claims estate s.covered k (classed i).0 (classed i).1) in
      omega (arith, slice_index-less claims lost i, here, there, slice_index-less mine (f mine (total mine - share)) i, is_of_class k classes claims i (eq-eqb k k refl), turned_share));
}
