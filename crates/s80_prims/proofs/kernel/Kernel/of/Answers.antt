use Rattle.s80_prims.proofs.kernel.Kernel.of.Goals as goal

pub returns : goal.returns
returns c = record {
  small_integer = c.in_ok-kernel_number.ensures.number;
  character = c.in_ok-kernel_number-2.ensures.number;
  undefined_object = c.in_ok-kernel_number-3.ensures.number;
  true_class = c.in_ok-kernel_number-4.ensures.number;
  false_class = c.in_ok-kernel_number-5.ensures.number;
  symbol = c.in_ok-kernel_number-6.ensures.number;
  large_positive = c.in_ok-kernel_number-7.ensures.number;
  large_negative = c.in_ok-kernel_number-8.ensures.number;
  float = c.in_ok-kernel_number-9.ensures.number;
  metaclass = c.in_ok-kernel_number-10.ensures.number;
  method_context = c.in_ok-kernel_number-11.ensures.number;
  block_context = c.in_ok-kernel_number-12.ensures.number;
  text_collector = c.in_ok-kernel_number-13.ensures.number;
  system_dictionary = c.in_ok-kernel_number-14.ensures.number;
  class = c.in_ok-kernel_number-15.ensures.number;
  string = c.in_ok-kernel_number-16.ensures.number;
  array = c.in_ok-kernel_number-17.ensures.number;
  message = c.in_ok-kernel_number-18.ensures.number;
  behavior = c.in_ok-kernel_number-19.ensures.number;
  boolean = c.in_ok-kernel_number-20.ensures.number;
  number = c.in_ok-kernel_number-21.ensures.number;
  context_part = c.in_ok-kernel_number-22.ensures.number;
}
