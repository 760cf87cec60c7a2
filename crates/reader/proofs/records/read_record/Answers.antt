-- `reader::records::read_record`. What `admit` refuses is the definition's refusal. What it lets pass has the bytes that the kind's own
-- function asks for, and a law of KindLaws makes that function's answer the definition's value.
use mathlib.Core.Path.{refl, ◌∙◌}
use Rattle.modelfile.specs.Records.{body_length, read_body}
use Rattle.reader.specs.Said.{said, Room}
use Rattle.reader.specs.declared.kinds.Kind.{Kind}
use Rattle.sums.proofs.HandedLaws.{handed_on}
use Rattle.reader.proofs.DueLaws.{window_fits}
use Rattle.reader.proofs.KindLaws.{holds, no_kind, kind_body}
use Rattle.reader.proofs.records.read_record.Goals as goal

pub returns-in_default : goal.returns-in_default
unfolding said Room
returns-in_default c = rw c.at.ensures (no_kind _ _ _ (rw c.wide.ensures.0 at c.in_default.ensures), tt)

pub returns-in_err-admit-in-Size : goal.returns-in_err-admit-in-Size
unfolding Room
returns-in_err-admit-in-Size c = rw (handed_on _ c.from_residual.ensures.1) (c.in_err-admit-in-Size.ensures.refused, tt)

pub read_size-requires : goal.read_size-requires
unfolding body_length
read_size-requires c = holds c.requires.holds refl c.in_ok-admit-in-Size.ensures.bytes_there Kind.Size c.in-Size.is

pub returns-in_ok-admit-in-Size : goal.returns-in_ok-admit-in-Size
unfolding read_body
returns-in_ok-admit-in-Size c =
    let admitted = c.in_ok-admit-in-Size.ensures in
    let read = c.read_size.ensures in
    (kind_body _ _ _ _ (c.in-Ok.ensures ∙ c.wide.ensures.0) admitted.kind_due refl refl admitted.bytes_there Kind.Size c.in-Size.is read.0, read.1)

pub returns-in_err-admit-in-Window : goal.returns-in_err-admit-in-Window
unfolding Room
returns-in_err-admit-in-Window c = rw (handed_on _ c.from_residual-in_err-admit-in-Window.ensures.1) (c.in_err-admit-in-Window.ensures.refused, tt)

pub read_window-requires-clause-holds : goal.read_window-requires-clause-holds
unfolding body_length
read_window-requires-clause-holds c = holds c.requires.holds refl c.in_ok-admit-in-Window.ensures.bytes_there Kind.Window c.in-Window.is

pub read_window-requires-clause-window_left : goal.read_window-requires-clause-window_left
read_window-requires-clause-window_left c = window_fits _ c.requires.sound (rw c.in-Window.is at c.in_ok-admit-in-Window.ensures.kind_due) refl

pub returns-in_ok-admit-in-Window : goal.returns-in_ok-admit-in-Window
unfolding read_body
returns-in_ok-admit-in-Window c =
    let admitted = c.in_ok-admit-in-Window.ensures in
    let read = c.read_window.ensures in
    (kind_body _ _ _ _ (c.in-Ok.ensures ∙ c.wide.ensures.0) admitted.kind_due refl refl admitted.bytes_there Kind.Window c.in-Window.is read.0, read.1)

pub returns-in_err-admit-in-Load : goal.returns-in_err-admit-in-Load
unfolding Room
returns-in_err-admit-in-Load c = rw (handed_on _ c.from_residual-in_err-admit-in-Load.ensures.1) (c.in_err-admit-in-Load.ensures.refused, tt)

pub read_load-requires-clause-holds : goal.read_load-requires-clause-holds
unfolding body_length
read_load-requires-clause-holds c = holds c.requires.holds refl c.in_ok-admit-in-Load.ensures.bytes_there Kind.Load c.in-Load.is

pub returns-in_ok-admit-in-Load : goal.returns-in_ok-admit-in-Load
unfolding read_body
returns-in_ok-admit-in-Load c =
    let admitted = c.in_ok-admit-in-Load.ensures in
    let read = c.read_load.ensures in
    (kind_body _ _ _ _ (c.in-Ok.ensures ∙ c.wide.ensures.0) admitted.kind_due refl refl admitted.bytes_there Kind.Load c.in-Load.is read.0, read.1)

pub returns-in_err-admit-in-Leaf : goal.returns-in_err-admit-in-Leaf
unfolding Room
returns-in_err-admit-in-Leaf c = rw (handed_on _ c.from_residual-in_err-admit-in-Leaf.ensures.1) (c.in_err-admit-in-Leaf.ensures.refused, tt)

pub read_leaf-requires-clause-holds : goal.read_leaf-requires-clause-holds
unfolding body_length
read_leaf-requires-clause-holds c = holds c.requires.holds refl c.in_ok-admit-in-Leaf.ensures.bytes_there Kind.Leaf c.in-Leaf.is

pub returns-in_ok-admit-in-Leaf : goal.returns-in_ok-admit-in-Leaf
unfolding read_body
returns-in_ok-admit-in-Leaf c =
    let admitted = c.in_ok-admit-in-Leaf.ensures in
    let read = c.read_leaf.ensures in
    (kind_body _ _ _ _ (c.in-Ok.ensures ∙ c.wide.ensures.0) admitted.kind_due refl refl admitted.bytes_there Kind.Leaf c.in-Leaf.is read.0, read.1)

pub returns-in_err-admit-in-Join : goal.returns-in_err-admit-in-Join
unfolding Room
returns-in_err-admit-in-Join c = rw (handed_on _ c.from_residual-in_err-admit-in-Join.ensures.1) (c.in_err-admit-in-Join.ensures.refused, tt)

pub returns-in_ok-admit-in-Join : goal.returns-in_ok-admit-in-Join
unfolding read_body
returns-in_ok-admit-in-Join c =
    let admitted = c.in_ok-admit-in-Join.ensures in
    let read = c.read_join.ensures in
    (kind_body _ _ _ _ (c.in-Ok.ensures ∙ c.wide.ensures.0) admitted.kind_due refl refl admitted.bytes_there Kind.Join c.in-Join.is read.0, read.1)

pub returns-in_err-admit-in-End : goal.returns-in_err-admit-in-End
unfolding Room
returns-in_err-admit-in-End c = rw (handed_on _ c.from_residual-in_err-admit-in-End.ensures.1) (c.in_err-admit-in-End.ensures.refused, tt)

pub returns-in_ok-admit-in-End : goal.returns-in_ok-admit-in-End
unfolding read_body
returns-in_ok-admit-in-End c =
    let admitted = c.in_ok-admit-in-End.ensures in
    let read = c.read_end.ensures in
    (kind_body _ _ _ _ (c.in-Ok.ensures ∙ c.wide.ensures.0) admitted.kind_due refl refl admitted.bytes_there Kind.End c.in-End.is read.0, read.1)
