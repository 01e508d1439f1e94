use Rattle.std.proofs.lemmas.List.Sums.{AllPass-from_list_all}
use Rattle.s80_kernel.specs.Rows.{is_kernel_class}
use Rattle.s80_kernel.specs.Methods.{kernel_methods}
use Rattle.s80_kernel.proofs.MethodTests.{all_of_classes}
use Rattle.s80_kernel.proofs.laws.kernel_methods_are_of_kernel_classes.Goals as goal

pub returns : goal.returns
returns c = AllPass-from_list_all (λ row. is_kernel_class row.class) kernel_methods all_of_classes
