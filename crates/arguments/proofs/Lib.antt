mod NoArguments
