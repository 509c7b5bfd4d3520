-- `judge` meets its contract: its tests are 22, 23 and 24, in their order. Assumes nothing.
use Rattle.std.proofs.Common.{sym, arith}
use Rattle.std.proofs.lemmas.Bool.Decides.{nat_tests}
use Rattle.model.specs.Container.{fires23, fires24, container_verdict}
use Rattle.model.proofs.Container.{header_room}
use Rattle.container.proofs.header.judge.Goals as goal

pub be32_at-requires : goal.be32_at-requires
be32_at-requires c = omega (arith, header_room _ (sym c.if-bad_header.ensures))

pub data-requires : goal.data-requires
data-requires c = header_room _ (sym c.if-bad_header.ensures)

pub be32_at-requires-else-be32_at-checksum : goal.be32_at-requires-else-be32_at-checksum
be32_at-requires-else-be32_at-checksum c = omega (arith, header_room c.args.file.now (sym c.if-bad_header.ensures))

pub tag_sum-requires : goal.tag_sum-requires
tag_sum-requires c = header_room _ (sym c.if-bad_header.ensures)

pub returns-then-bad_header : goal.returns-then-bad_header
unfolding container_verdict fires23 fires24
returns-then-bad_header c = grind (arith, nat_tests)

pub returns-then-be32_at-checksum : goal.returns-then-be32_at-checksum
unfolding container_verdict fires23 fires24
returns-then-be32_at-checksum c = grind (arith, nat_tests)

pub returns-then-be32_at-tag_sum : goal.returns-then-be32_at-tag_sum
unfolding container_verdict fires23 fires24
returns-then-be32_at-tag_sum c = grind (arith, nat_tests)

pub returns-else-be32_at-tag_sum : goal.returns-else-be32_at-tag_sum
unfolding container_verdict fires23 fires24
returns-else-be32_at-tag_sum c = grind (arith, nat_tests)
