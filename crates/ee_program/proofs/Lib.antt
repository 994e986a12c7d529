mod FaultKinds
