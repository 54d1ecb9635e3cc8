-- What is put on links one after the other is put on them in one, and their counts are of what was put.
use Rattle.std.proofs.Common.{◌≡◌, ◌∙◌, ℕ, ◌<◌, Bool, true, false, cond, ◌==◌, List, [], ◌∷◌, ◌++◌, length, slice_set, refl, sym, ap, subst, append_assoc}
use Rattle.std.proofs.lemmas.Bool.{eqb-true, eqb-false}
use Rattle.std.proofs.lemmas.List.{get_or-set_other, length-set}
use Rattle.std.proofs.lemmas.Grind.{get_or-set_at}
use Rattle.ken_net.specs.Counts.{risen, put_to}
use Rattle.ken_net.specs.Puts.{Put}
use Rattle.ken_net.specs.Standings.{Standing, Leaving, no_link, link_to, after_put, passed, after_puts, all_passed, PutOn}

-- the links after one put
abbrev one : Put → List Standing → List Standing
one p links = slice_set links p.to (after_put p (link_to p.to links))

after_append : (ps qs : List Put) (links : List Standing) → after_puts qs (after_puts ps links) ≡ after_puts (ps ++ qs) links
after_append [] qs links = refl
after_append (p ∷ ps) qs links = after_append ps qs (one p links)

passed_append : (ps qs : List Put) (links : List Standing) → all_passed ps links ++ all_passed qs (after_puts ps links) ≡ all_passed (ps ++ qs) links
passed_append [] qs links = refl
passed_append (p ∷ ps) qs links =
    append_assoc (passed p (link_to p.to links)) (all_passed ps (one p links)) (all_passed qs (after_puts ps (one p links)))
    ∙ ap (λ (l : List Put). passed p (link_to p.to links) ++ l) (passed_append ps qs (one p links))

pub put_still : {S : Type 0} {between : S → S → List Put → Type 0} (links : Leaving) (base : S) → between base base [] → PutOn between links links base base []
put_still links base still = record { links_are = refl; passed_on = still }

pub put_joins : {S : Type 0} {between : S → S → List Put → Type 0}
    → ((a b c : S) (ps qs : List Put) → between a b ps → between b c qs → between a c (ps ++ qs))
    → {k l m : Leaving} {a b c : S} {ps qs : List Put} → PutOn between k l a b ps → PutOn between l m b c qs → PutOn between k m a c (ps ++ qs)
put_joins {between = between} joins {k = k} {l = l} {m = m} {a = a} {b = b} {c = c} {ps = ps} {qs = qs} first then =
    let links : l.links ≡ after_puts ps k.links = ap (λ (x : Leaving). x.links) first.links_are in
    let from : l.from ≡ k.from = ap (λ (x : Leaving). x.from) first.links_are in
    let second : between b c (all_passed qs (after_puts ps k.links)) = subst (λ (x : List Standing). between b c (all_passed qs x)) links then.passed_on in
    record {
      links_are =
          then.links_are
          ∙ ap (λ (x : Leaving). record x { links = after_puts qs x.links }) first.links_are
          ∙ ap (λ (x : List Standing). record k { links = x }) (after_append ps qs k.links);
      passed_on = subst (λ (x : List Put). between a c x) (passed_append ps qs k.links) (joins a b c (all_passed ps k.links) (all_passed qs (after_puts ps k.links)) first.passed_on second);
    }

-- a put counts on its own link alone
count_one : (v : ℕ) (p : Put) (links : List Standing) → v < length links → (b : Bool) → (p.to == v) ≡ b
    → (link_to v (one p links)).puts ≡ cond b (risen (link_to v links).puts) (link_to v links).puts
count_one v p links low true e =
    let same : p.to ≡ v = eqb-true p.to v e in
    let there : p.to < length links = subst (λ (u : ℕ). u < length links) (sym same) low in
    ap (λ (s : Standing). s.puts) (get_or-set_at links p.to v (after_put p (link_to p.to links)) no_link (sym same) there)
    ∙ ap (λ (u : ℕ). risen (link_to u links).puts) same
count_one v p links low false e =
    ap (λ (s : Standing). s.puts) (get_or-set_other links p.to v (after_put p (link_to p.to links)) no_link (λ same. eqb-false p.to v e (sym same)))

counts : (v : ℕ) (ps : List Put) (links : List Standing) → v < length links → (link_to v (after_puts ps links)).puts ≡ put_to v ps (link_to v links).puts
counts v [] links low = refl
counts v (p ∷ ps) links low =
    counts v ps (one p links) (subst (λ (n : ℕ). v < n) (sym (length-set links p.to (after_put p (link_to p.to links)))) low)
    ∙ ap (put_to v ps) (count_one v p links low (p.to == v) refl)

pub counted : (l m : Leaving) (ps : List Put) (v : ℕ) → m ≡ record l { links = after_puts ps l.links } → v < length l.links → (link_to v m.links).puts ≡ put_to v ps (link_to v l.links).puts
counted l m ps v are low = ap (λ (x : Leaving). (link_to v x.links).puts) are ∙ counts v ps l.links low
