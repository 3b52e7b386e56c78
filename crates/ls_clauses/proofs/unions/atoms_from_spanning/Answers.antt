use Rattle.ls_clauses.proofs.SpanningLists.{is_atom_at-spanning, atoms_at-spanning, atom_items-spanning}
use Rattle.ls_clauses.proofs.Below.{atom-below, atom_items-below, base-below}
use Rattle.ls_clauses.proofs.unions.atoms_from_spanning.Goals as goal

pub returns : goal.returns
returns c = record {
  atom = λ f g q k part span. is_atom_at-spanning f g part span q k;
  list = λ f g q f_order g_order part span. atoms_at-spanning f g f_order g_order part span q;
  items = λ f g k part span. atom_items-spanning f g part span k;
  below = atom-below;
  items_below = atom_items-below;
  base = base-below;
}
