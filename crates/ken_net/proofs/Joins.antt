-- Puts one after the other.
use Rattle.std.proofs.Common.{◌∙◌, ℕ, List, [], ◌++◌}
use Rattle.ken_net.specs.Puts.{Put}
use Rattle.ken_net.specs.Went.{Went}

pub went_joins : {S : Type 0} {node nodes nones : S → ℕ} {put : S → S → List Put → Type 0} {given : S → S → List (List ℕ) → Type 0}
    → ((a b c : S) (ps qs : List Put) → put a b ps → put b c qs → put a c (ps ++ qs))
    → ((a b c : S) (xs ys : List (List ℕ)) → given a b xs → given b c ys → given a c (xs ++ ys))
    → {a b c : S} {ps qs : List Put} → Went node nodes nones put given a b ps → Went node nodes nones put given b c qs
    → Went node nodes nones put given a c (ps ++ qs)
went_joins put_joins given_joins {a = a} {b = b} {c = c} {ps = ps} {qs = qs} x y = record {
  node_is = y.node_is ∙ x.node_is;
  nodes_is = y.nodes_is ∙ x.nodes_is;
  nones_is = y.nones_is ∙ x.nones_is;
  put = put_joins a b c ps qs x.put y.put;
  gave = given_joins a b c [] [] x.gave y.gave;
}
