use Rattle.solero.proofs.OneFile.{one_class, some_class}
use Rattle.solero.proofs.class_text.listed.Goals as goal

pub bounds-as_slice-0 : goal.bounds-as_slice-0
bounds-as_slice-0 c = some_class c.args.files.now c.in_ok-classes.classes c.as_slice-2.result.now c.requires (rw c.as_slice.ensures at c.in_ok-classes.ensures.ok) c.as_slice-2.ensures

pub listing-requires : goal.listing-requires
listing-requires c = (one_class c.args.files.now c.in_ok-classes.classes c.as_slice-2.result.now _ c.requires (rw c.as_slice.ensures at c.in_ok-classes.ensures.ok) c.as_slice-2.ensures c.index-as_slice-0.is).1

pub returns-clause-ok : goal.returns-clause-ok
returns-clause-ok c = record {
  class = c.index-as_slice-0.result;
  spelled = (one_class c.args.files.now c.in_ok-classes.classes c.as_slice-2.result.now _ c.requires (rw c.as_slice.ensures at c.in_ok-classes.ensures.ok) c.as_slice-2.ensures c.index-as_slice-0.is).0;
  listed = c.in_ok-listing.ensures;
}
