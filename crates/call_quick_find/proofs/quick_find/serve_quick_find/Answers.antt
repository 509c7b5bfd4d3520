-- `serve_quick_find` meets its contract. Assumes nothing.
use Rattle.std.proofs.Common.{Err}
use mathlib.Core.Path.{◌≡◌, refl, sym, ap, ◌∙◌}
use mathlib.Core.Bool.{false}
use native.Mathlib.Omega.{arith}
use Rattle.model.specs.Bytes.{Bytes}
use Rattle.model.specs.Calls.{bad_name}
use Rattle.files.specs.Told.{told_quick_find}
use Rattle.files.proofs.Octets.{octets}
use Rattle.call_quick_find.proofs.Returns.{blocks_are, few_looked, untitled, missed, served}
use Rattle.call_quick_find.proofs.quick_find.serve_quick_find.Goals as goal

pub returns-then-bad_name : goal.returns-then-bad_name
returns-then-bad_name c =
    let image_bytes : Bytes c.args.image.now = octets _ c.type_inv.image in
    let letters : Bytes c.args.name.now = octets _ c.type_inv.name in
    untitled c.requires image_bytes letters (ap (λ q. told_quick_find (Err q)) c.from.ensures) (sym c.bad_name.ensures ∙ c.if-bad_name.true)

pub overflow_cast-result : goal.overflow_cast-result
overflow_cast-result c =
    let found = rw (blocks_are c.requires c.first_entry.ensures) at c.in-Some.ensures in
    omega (arith, found.1, few_looked c.requires c.args.name.now)

pub returns-in-Some : goal.returns-in-Some
returns-in-Some c =
    let image_bytes : Bytes c.args.image.now = octets _ c.type_inv.image in
    let letters : Bytes c.args.name.now = octets _ c.type_inv.name in
    let good : bad_name c.args.name.now ≡ false = sym c.bad_name.ensures ∙ c.if-bad_name.false in
    let found = rw (blocks_are c.requires c.first_entry.ensures) at c.in-Some.ensures in
    served c.requires image_bytes letters good found c.read_entry.ensures

pub returns-in-None : goal.returns-in-None
returns-in-None c =
    let image_bytes : Bytes c.args.image.now = octets _ c.type_inv.image in
    let letters : Bytes c.args.name.now = octets _ c.type_inv.name in
    let good : bad_name c.args.name.now ≡ false = sym c.bad_name.ensures ∙ c.if-bad_name.false in
    let none = rw (blocks_are c.requires c.first_entry.ensures) at c.in-None.ensures in
    missed c.requires image_bytes letters good refl none
